use Rattle.sqlite.specs.Held.{state}
use Rattle.scim_store.specs.Shelves.{IsKeptIn}
use Rattle.scim_store.specs.SqlShelves.{base_of, connection_of, rows_of}
use Rattle.scim_command_database.proofs.ReadLemmas.{spares_both}
use Rattle.scim_command_database.proofs.auditing.listed_text.Goals as goal

pub returns-in_ok-from-in-Last-clause-spares : goal.returns-in_ok-from-in-Last-clause-spares
returns-in_ok-from-in-Last-clause-spares g c =
    let shelf = c.args.shelf.now in
    let found = c.start_of_portion.new.shelf in
    let from = c.in_ok-from-in-Last.ensures in
    spares_both (IsKeptIn (base_of shelf) (state g.S.Store (connection_of shelf)) (rows_of shelf)) (state g.S.Store (connection_of shelf)) (state g.S.Store (connection_of found)) (state g.S.Store (connection_of c.first_lines-in-Last.new.shelf)) from.same
    (IsKeptIn (base_of found) (state g.S.Store (connection_of found)) (rows_of found)) from.store from.spares c.first_lines-in-Last.ensures.spares
