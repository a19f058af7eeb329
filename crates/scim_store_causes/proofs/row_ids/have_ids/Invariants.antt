use Rattle.std.specs.List.{AllWithin}
use Rattle.scim_store_causes.specs.Ids.{HasId}
use Rattle.scim_store_causes.proofs.row_ids.have_ids.Given as goal

-- the rows so far have ids
abbrev pub invariant-loop-row : goal.invariant-loop-row
invariant-loop-row l = AllWithin HasId l.rows 0 l.row-index
