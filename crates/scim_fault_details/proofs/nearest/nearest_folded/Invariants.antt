use Rattle.std.proofs.Common.{map, take}
use Rattle.scim_fault_details.specs.code.BestName.{IsBest}
use Rattle.scim_fault_details.specs.code.Borrowed.{text_at}
use Rattle.scim_fault_details.proofs.nearest.nearest_folded.Given as goal

-- the best name so far is that of the names before this one
abbrev pub invariant-loop-name : goal.invariant-loop-name
invariant-loop-name l = IsBest l.word (map text_at (take l.name-index l.names)) l.best
