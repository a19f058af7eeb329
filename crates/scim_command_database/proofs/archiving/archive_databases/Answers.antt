use Rattle.std.proofs.Common.{subst}
use Rattle.sqlite.specs.Held.{state}
use Rattle.scim_shelf.specs.Stores.{IsStore}
use Rattle.scim_store_tables.specs.declared.versions.Version.TheVariants.{Two}
use Rattle.scim_store.specs.SqlShelves.{base_of, connection_of, rows_of}
use Rattle.scim_command.specs.Options.{default_base}
use Rattle.scim_command_database.specs.Archives.{IsArchiveFault, IsArchiveIn}
use Rattle.scim_command_database.proofs.ArchiveLemmas.{stands_sound}
use Rattle.scim_command_database.proofs.WorkLemmas.{ran_over}
use Rattle.scim_command_database.proofs.archiving.archive_databases.Goals as goal

pub returns-in-Ok-clause-archived : goal.returns-in-Ok-clause-archived
returns-in-Ok-clause-archived g c =
    let old = state g.S.Store c.args.old in
    let shelf = c.in-Ok.shelf in
    let read = c.archive-done.new.shelf in
    let mid = state g.S.Store (connection_of shelf) in
    let did = c.archive-done.ensures in
    let new = state g.T.Store c.archive-done.new.new in
    rw c.into_connection.ensures.connection (ran_over default_base (base_of shelf) (base_of read) old mid (state g.S.Store (connection_of read)) (rows_of shelf) (rows_of read)
    IsArchiveFault (λ done store. IsArchiveIn default_base new done store) c.archive-done.result c.of_run.result
    c.in-Ok.ensures.base
    c.of_run.ensures
    did.faults
    did.honest
    c.in-Ok.ensures.opened
    did.store
    (λ store stands clean.
    let opened = c.in-Ok.ensures.opened (did.honest clean) in
    let here = (stands.stored (did.honest clean)).stands opened.1.is_open in
    did.archived store stands clean (subst (λ base. IsStore base store) c.in-Ok.ensures.base (stands_sound Two (base_of shelf) mid.now store here))))
