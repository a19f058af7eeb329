use Rattle.std.proofs.Common.{◌≡◌, ℕ, List, take}
use Rattle.std.specs.Prelude.{find}
use Rattle.std.specs.Ordering.{nat_cmp}
use Rattle.std.specs.Cmp.Lexicographic.{slice_cmp}
use Rattle.std.specs.BTreeSet.{contains}
use Rattle.scim_cell.specs.Content.{Content}
use Rattle.scim_shelf.specs.Collections.{IsCollection}
use Rattle.scim_shelf.specs.Indexed.{has_id}
use Rattle.scim_shelf.specs.IndexedTexts.{is_under_some_in}
use Rattle.scim_shelf.proofs.collections.Collection.ids_under.Given as goal

-- the ids under the texts so far
abbrev pub invariant-loop-own : goal.invariant-loop-own
invariant-loop-own l = (cs : List Content) → IsCollection cs l.self → (i : List ℕ) → contains (slice_cmp nat_cmp) l.ids i ≡ is_under_some_in (take l.own-index l.texts) (find (has_id i) cs)
