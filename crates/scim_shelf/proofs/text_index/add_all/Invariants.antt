use Rattle.std.proofs.Common.{◌≡◌, ◌||◌, ℕ, List, map}
use Rattle.std.specs.Ordering.{nat_cmp}
use Rattle.std.specs.Cmp.Lexicographic.{slice_cmp}
use Rattle.std.specs.BTreeSet.{contains}
use Rattle.scim_shelf.proofs.PickLemmas.{is_listed}
use Rattle.scim_shelf.proofs.text_index.add_all.Given as goal

-- with those of the others so far
abbrev pub invariant-loop-id : goal.invariant-loop-id
invariant-loop-id l = (i : List ℕ) → contains (slice_cmp nat_cmp) l.ids i ≡ (contains (slice_cmp nat_cmp) l.fn.ids i || is_listed i (map (λ id. id.now) l.yielded))
