use Rattle.std.proofs.Common.{◌≡◌, false, take}
use Rattle.scim_shelf.specs.Stores.{has_text_in}
use Rattle.scim_shelf.proofs.leaf_texts.has_text.Given as goal

-- none of the values so far has the text
abbrev pub invariant-loop-value : goal.invariant-loop-value
invariant-loop-value l = has_text_in l.leaf l.text (take l.value-index l.value-items) ≡ false
