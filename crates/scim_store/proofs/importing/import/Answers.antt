use Rattle.std.proofs.Common.{◌≡◌, rules}
use Rattle.std.proofs.lemmas.Result.{on_ok_weaker, on_err_weaker}
use Rattle.sqlite.specs.Held.{state}
use Rattle.scim_store_tables.specs.Tables.{no_schema}
use Rattle.scim_store.proofs.ImportLemmas.{import_made, import_lasts, import_survives, rests_undone}
use Rattle.scim_store.proofs.importing.import.Goals as goal

pub returns-clause-made : goal.returns-clause-made
returns-clause-made g c clean =
    let old = state g.S.Store c.args.conn.now in
    let empty : old.now.schema ≡ no_schema = c.is_empty_database.ensures.yes (search rules) in
    on_ok_weaker c.fill-filled.result (import_made c.args.base.now c.args.users.now old (state g.S.Store c.fill-filled.new.conn) empty c.rows_obey_schema.ensures) (c.fill-filled.ensures.made clean)

pub returns-clause-undone : goal.returns-clause-undone
returns-clause-undone g c clean = on_err_weaker c.fill-filled.result (rests_undone (state g.S.Store c.args.conn.now) (state g.S.Store c.fill-filled.new.conn)) (c.fill-filled.ensures.undone clean)

pub returns-clause-crash : goal.returns-clause-crash
returns-clause-crash g c =
    let old = state g.S.Store c.args.conn.now in
    let empty : old.now.schema ≡ no_schema = c.is_empty_database.ensures.yes (search rules) in
    import_survives c.args.base.now c.args.users.now old (state g.S.Store c.fill-filled.new.conn) empty c.fill-filled.ensures.crash

pub returns-clause-durable : goal.returns-clause-durable
returns-clause-durable g c clean =
    let old = state g.S.Store c.args.conn.now in
    let empty : old.now.schema ≡ no_schema = c.is_empty_database.ensures.yes (search rules) in
    on_ok_weaker c.fill-filled.result (import_lasts c.args.base.now c.args.users.now old (state g.S.Store c.fill-filled.new.conn) empty (λ trees opened left. g.met.S.Store.settled c.fill-filled.new.conn.store trees opened left)) (c.fill-filled.ensures.made clean)
