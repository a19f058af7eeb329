use Rattle.sqlite.specs.Held.{state}
use Rattle.scim_store_tables.specs.Queries.{rows_query}
use Rattle.scim_store_tables.specs.code.Told.{AreRows}
use Rattle.scim_store_tables.proofs.ReadLemmas.{rows_told}
use Rattle.scim_store_tables.proofs.ToldLemmas.{asked_told}
use Rattle.scim_store_tables.proofs.asking.read_rows.Goals as goal

pub returns : goal.returns
returns g c =
    let old = state g.S.Store c.args.conn.now in
    let new = state g.S.Store c.ask.new.conn in
    λ v has. asked_told v (AreRows c.args.table) c.rows_query.result.now (rows_query c.args.table) old new c.ask.result (c.rows_query.ensures v has) (rows_told c.args.table old new) c.ask.ensures
