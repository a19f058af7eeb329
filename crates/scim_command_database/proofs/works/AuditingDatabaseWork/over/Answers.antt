use Rattle.std.proofs.lemmas.Result.{on_ok_weaker}
use Rattle.sqlite.specs.Held.{state}
use Rattle.scim_audit_listing.specs.Listings.{listed}
use Rattle.scim_store.specs.SqlShelves.{base_of, connection_of, rows_of}
use Rattle.scim_command.specs.Options.{default_base}
use Rattle.scim_command_database.specs.Faults.{IsDatabaseFault}
use Rattle.scim_command_database.specs.Works.{Writes}
use Rattle.scim_command_database.proofs.WorkLemmas.{opened_spared, ran_over}
use Rattle.scim_command_database.proofs.works.AuditingDatabaseWork.over.Goals as goal

pub returns-in-Ok-clause-done : goal.returns-in-Ok-clause-done
returns-in-Ok-clause-done g c =
    let old = state g.S.Store c.args.connection in
    let shelf = c.in-Ok.shelf in
    let read = c.print_audit-done.new.shelf in
    let did = c.print_audit-done.ensures in
    let before = g.W.Write.contents c.args.writer.now in
    let after = g.W.Write.contents c.print_audit-done.new.writer in
    rw c.into_connection.ensures.connection (
      ran_over default_base (base_of shelf) (base_of read) old (state g.S.Store (connection_of shelf)) (state g.S.Store (connection_of read)) (rows_of shelf) (rows_of read)
          IsDatabaseFault (λ done store. Writes before after (listed c.args.self.0.now store.audit) done) c.print_audit-done.result c.of_run.result
          c.in-Ok.ensures.base
          c.of_run.ensures
          did.faults
          did.honest
          c.in-Ok.ensures.opened
          did.store
          (λ store stands clean. record {
            whole = on_ok_weaker c.print_audit-done.result (λ wrote. wrote store stands clean) did.told;
            front = λ failed. did.output failed store stands clean;
          }),
      opened_spared default_base (base_of shelf) old (state g.S.Store (connection_of shelf)) (state g.S.Store (connection_of read)) (rows_of shelf) c.in-Ok.ensures.base c.in-Ok.ensures.crash c.in-Ok.ensures.opened did.spares,
    )
