use Rattle.std.proofs.Common.{take}
use Rattle.scim_search.specs.Walks.{AreCompared}
use Rattle.scim_search.proofs.texts.compared_texts.Given as goal

-- the texts so far
abbrev pub invariant-loop-own : goal.invariant-loop-own
invariant-loop-own l = AreCompared (take l.own-index l.needed) l.texts.items
