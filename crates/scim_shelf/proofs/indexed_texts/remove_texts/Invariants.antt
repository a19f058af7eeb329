use Rattle.std.proofs.Common.{◌≡◌, ℕ, List, take, ◌&&◌, not}
use Rattle.std.specs.BTreeSet.{contains_text}
use Rattle.scim_shelf.specs.Stores.{has_text_in}
use Rattle.scim_shelf.proofs.indexed_texts.remove_texts.Given as goal

-- the texts without those of the values so far
abbrev pub invariant-loop-value : goal.invariant-loop-value
invariant-loop-value l = (t : List ℕ) → contains_text l.texts t ≡ (contains_text l.initial.texts t && not (has_text_in l.leaf t (take l.value-index l.values)))
