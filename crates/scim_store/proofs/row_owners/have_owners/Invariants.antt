use Rattle.std.specs.List.{AllWithin}
use Rattle.scim_store.specs.Owners.{HasOwner}
use Rattle.scim_store.proofs.row_owners.have_owners.Given as goal

-- the rows so far have owners
abbrev pub invariant-loop-row : goal.invariant-loop-row
invariant-loop-row l = AllWithin HasOwner l.rows 0 l.row-index
