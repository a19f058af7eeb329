use Rattle.std.proofs.Common.{◌≡◌, false, take}
use Rattle.scim_shelf.specs.IndexedTexts.{has_unindexed}
use Rattle.scim_shelf.proofs.leaf_texts.has_unindexed.Given as goal

-- each leaf so far is indexed
abbrev pub invariant-loop-own : goal.invariant-loop-own
invariant-loop-own l = has_unindexed l.kind (take l.own-index l.texts) ≡ false
