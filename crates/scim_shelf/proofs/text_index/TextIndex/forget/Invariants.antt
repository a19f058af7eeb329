use Rattle.std.proofs.Common.{◌≡◌, ℕ, List, ◌&&◌, false, cond, take}
use Rattle.scim_value.specs.declared.uniqueness.UniqueName.{UniqueName}
use Rattle.scim_shelf.specs.Owners.{is_among}
use Rattle.scim_shelf.specs.TextIndex.{is_same, is_noted}
use Rattle.scim_shelf.proofs.text_index.TextIndex.forget.Given as goal

-- the id is noted under none of the texts so far
abbrev pub invariant-loop-text : goal.invariant-loop-text
invariant-loop-text l =
    (q : UniqueName) (i : List ℕ) → is_noted l.self q i ≡ cond (is_among q (take l.text-index l.texts) && is_same l.id i) false (is_noted l.fn.self q i)
