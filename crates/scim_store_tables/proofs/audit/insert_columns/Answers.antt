use Rattle.std.proofs.Common.{w64}
use Rattle.std.proofs.lemmas.Int.{to_z-of_z}
use Rattle.sqlite.specs.Held.{state}
use Rattle.scim_store_tables.proofs.AuditLemmas.{bound_text, bound_number, inserts_audit_row}
use Rattle.scim_store_tables.proofs.StepLemmas.{does_execute}
use Rattle.scim_store_tables.proofs.audit.insert_columns.Goals as goal

pub returns : goal.returns
returns g c =
    let a = c.args.columns.now in
    let number = to_z-of_z w64 c.args.number c.ranges.number in
    let moment = to_z-of_z w64 c.args.moment c.ranges.moment in
    record {
      does = does_execute g.S.Store c.args.tx.now c.execute.new.self _ _ c.execute.result _ c.execute.ensures.same_reference c.execute.ensures.ended c.execute.ensures.runs c.execute.ensures.survives (λ runs. inserts_audit_row (state g.S.Store c.args.tx.now.conn.now) (state g.S.Store c.execute.new.self.conn.now) c.execute.result a
          (rw (c.params-to_sql.ensures, c.params-to_sql-2.ensures, c.params-to_sql-3.ensures, c.params-to_sql-4.ensures, c.params-to_sql-5.ensures, c.params-to_sql-6.ensures, c.params-to_sql-7.ensures, c.params-to_sql-8.ensures, c.params-to_sql-9.ensures, c.params-to_sql-10.ensures, number, moment, c.requires.number, c.requires.moment, bound_text a.id, bound_text a.leaf, bound_number a.rule, bound_number a.refusal) at runs));
    }
