use Rattle.scim_store_causes.proofs.RowLemmas.{each_next}
use Rattle.scim_store_causes.proofs.WindowLemmas.{each_none}
use Rattle.scim_store_causes.proofs.audit_causes.fault_among.Goals as goal

pub loop-number-init : goal.loop-number-init
loop-number-init c = each_none c.args.rows.now c.args.first

pub loop-number-preserved : goal.loop-number-preserved
loop-number-preserved c = each_next c.args.rows.now c.args.first c.loop-number.number c.loop-number.invariant (c.in-Some.row.now, c.in-Some.ensures.some.0, c.in-Some.ensures.some.1)
