use Rattle.sqlite.specs.Held.{state}
use Rattle.scim_store_tables.proofs.StepLemmas.{does_execute}
use Rattle.scim_store_tables.proofs.WriteLemmas.{inserts_secret_row}
use Rattle.scim_store_tables.proofs.writes.insert_secret.Goals as goal

pub returns : goal.returns
returns g c =
    record { does = does_execute g.S.Store c.args.tx.now c.execute.new.self _ _ c.execute.result _ c.execute.ensures.same_reference c.execute.ensures.ended c.execute.ensures.runs c.execute.ensures.survives (λ runs. inserts_secret_row (state g.S.Store c.args.tx.now.conn.now) (state g.S.Store c.execute.new.self.conn.now) c.execute.result c.args.id.now c.args.door_code.now (rw (c.params-to_sql.ensures, c.params-to_sql-2.ensures) at runs)) }
