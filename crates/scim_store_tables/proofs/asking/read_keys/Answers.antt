use Rattle.sqlite.specs.Held.{state}
use Rattle.scim_store_tables.specs.Queries.{keys_query}
use Rattle.scim_store_tables.specs.code.Told.{AreKeys}
use Rattle.scim_store_tables.proofs.ReadLemmas.{table_keys_told}
use Rattle.scim_store_tables.proofs.ToldLemmas.{asked_told}
use Rattle.scim_store_tables.proofs.asking.read_keys.Goals as goal

pub returns : goal.returns
returns g c =
    let old = state g.S.Store c.args.conn.now in
    let new = state g.S.Store c.ask.new.conn in
    λ v has. asked_told v (AreKeys c.args.table) c.keys_query.result.now (keys_query c.args.table) old new c.ask.result (c.keys_query.ensures v has) (table_keys_told c.args.table old new) c.ask.ensures
