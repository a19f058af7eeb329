use Rattle.std.proofs.Common.{take}
use Rattle.scim_store_rows.proofs.CodeLemmas.{AreCodes}
use Rattle.scim_store_rows.proofs.door_codes.codes_of.Given as goal

-- the map has the codes of the rows so far
abbrev pub invariant-loop-row : goal.invariant-loop-row
invariant-loop-row l = AreCodes (take l.row-index l.rows) l.codes
