use Rattle.std.proofs.Common.{take}
use Rattle.scim_search.specs.PossibleIds.{indexed_of}
use Rattle.scim_search.specs.Walks.{AreCompared}
use Rattle.scim_search.proofs.possible_ids.indexed_texts.Given as goal

-- the texts so far
abbrev pub invariant-loop-needed : goal.invariant-loop-needed
invariant-loop-needed l = AreCompared (indexed_of l.kind (take l.needed-index l.texts)) l.indexed.items
