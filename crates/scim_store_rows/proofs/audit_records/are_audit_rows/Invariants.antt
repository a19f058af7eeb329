use Rattle.std.proofs.Common.{◌≡◌, ◌+◌, take}
use Rattle.std.specs.Prelude.{All}
use Rattle.scim_store_rows.specs.Audit.{audit_rows}
use Rattle.scim_store_rows.specs.AuditBack.{IsSound}
use Rattle.scim_store_rows.proofs.audit_records.are_audit_rows.Given as goal

abbrev pub invariant-loop-row : goal.invariant-loop-row
invariant-loop-row l = record {
  number : l.number ≡ l.fn.first + l.row-index;
  read : audit_rows l.fn.first l.read.items ≡ take l.row-index l.rows;
  sound : All IsSound l.read.items;
}
