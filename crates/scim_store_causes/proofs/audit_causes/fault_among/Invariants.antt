use Rattle.scim_store_causes.specs.Audit.{HasEach}
use Rattle.scim_store_causes.proofs.audit_causes.fault_among.Given as goal

-- there is a row for each number so far
abbrev pub invariant-loop-number : goal.invariant-loop-number
invariant-loop-number l = HasEach l.rows l.fn.first l.number
