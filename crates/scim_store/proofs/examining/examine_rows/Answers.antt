use Rattle.std.proofs.Common.{rules, subst, sym}
use Rattle.sqlite.specs.Held.{state}
use Rattle.scim_store.specs.Damage.{Judges}
use Rattle.scim_store.specs.Opening.{resource_tables, ExaminesRows}
use Rattle.scim_store.proofs.OpenLemmas.{ordered_read, audit_counted, damaged_read, foreign_read}
use Rattle.scim_store.proofs.examining.examine_rows.Goals as goal

pub returns-in_ok-count_audit-in-Sound-clause-examined : goal.returns-in_ok-count_audit-in-Sound-clause-examined
returns-in_ok-count_audit-in-Sound-clause-examined g c clean has =
    let old = state g.S.Store c.args.conn.now in
    let new = state g.S.Store c.count_audit.new.conn in
    subst (ExaminesRows c.args.version c.args.base.now c.args.rows old new) (sym c.of_count.ensures)
    (audit_counted c.args.version c.args.base.now old new c.args.rows c.in_ok-count_audit-in-Sound.field-0 (λ ordered. subst (Judges c.args.version c.args.base.now (resource_tables c.args.rows)) c.in-Sound.is (c.in_ok-judge_and_copy.ensures.judged ordered)) (c.in_ok-count_audit-in-Sound.ensures.counted clean c.args.version has))

pub returns-in-Damaged-clause-examined : goal.returns-in-Damaged-clause-examined
returns-in-Damaged-clause-examined g c clean has = record {
  is = λ held read. damaged_read c.args.version c.args.base.now (state g.S.Store c.args.conn.now).now c.args.rows read held.schema c.in-Damaged.id (subst (Judges c.args.version c.args.base.now (resource_tables c.args.rows)) c.in-Damaged.is (c.in_ok-judge_and_copy.ensures.judged (ordered_read c.args.version (state g.S.Store c.args.conn.now).now c.args.rows read)));
  untouched = search rules;
}

pub returns-in-Foreign-clause-examined : goal.returns-in-Foreign-clause-examined
returns-in-Foreign-clause-examined g c clean has = record {
  is = λ held read. foreign_read c.args.version c.args.base.now (state g.S.Store c.args.conn.now).now c.args.rows read held (subst (Judges c.args.version c.args.base.now (resource_tables c.args.rows)) c.in-Foreign.is (c.in_ok-judge_and_copy.ensures.judged (ordered_read c.args.version (state g.S.Store c.args.conn.now).now c.args.rows read)));
  untouched = search rules;
}

pub returns-in_err-count_audit-in-Sound-clause-spares : goal.returns-in_err-count_audit-in-Sound-clause-spares
returns-in_err-count_audit-in-Sound-clause-spares g c = c.count_audit.ensures.spares c.args.version

pub returns-in_ok-count_audit-in-Sound-clause-spares : goal.returns-in_ok-count_audit-in-Sound-clause-spares
returns-in_ok-count_audit-in-Sound-clause-spares g c = c.count_audit.ensures.spares c.args.version
