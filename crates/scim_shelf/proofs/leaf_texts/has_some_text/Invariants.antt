use Rattle.std.proofs.Common.{◌≡◌, false, take}
use Rattle.scim_shelf.specs.Stores.{has_some_text}
use Rattle.scim_shelf.proofs.leaf_texts.has_some_text.Given as goal

-- the resource has none of the texts so far
abbrev pub invariant-loop-own : goal.invariant-loop-own
invariant-loop-own l = has_some_text (take l.own-index l.texts) l.resource ≡ false
