use Rattle.std.proofs.Common.{subst, IfErr, ◌≢◌}
use Rattle.sqlite.specs.Held.{state}
use Rattle.sqlite.specs.declared.error.Error.TheVariants.{SqliteFailure}
use Rattle.sqlite.specs.declared.error.ErrorCode.TheVariants.{OutOfMemory}
use Rattle.scim_cell.specs.Kinds.{of_kind}
use Rattle.scim_shelf.specs.Stores.{Store}
use Rattle.scim_shelf.specs.Shelves.{TookPrefix}
use Rattle.scim_store_rows.specs.Finding.{StandsIn}
use Rattle.scim_store.proofs.ShelfLemmas.{clean_before}
use Rattle.scim_store.proofs.sql_shelf.SqlShelfShelf.each.Goals as goal

pub returns-clause-prefix : goal.returns-clause-prefix
returns-clause-prefix g c = λ failed store stands honest.
    let old = state g.S.Store c.args.self.now.connection in
    let new = state g.S.Store c.walk-shown.new.conn in
    let device = c.told.ensures.device failed in
    let shown = subst (λ r. IfErr r (λ e. e ≢ SqliteFailure OutOfMemory → (store : Store) → StandsIn c.args.self.now.base old store → TookPrefix g.V.Visitor.takes c.args.visitor.now (of_kind c.args.kind store.resources) c.walk-shown.new.visitor)) device.1 (rw c.as_str.ensures at (c.walk-shown.ensures.prefix honest)) in
    shown device.2 store (λ opened. (stands.stored (clean_before old new c.walk-shown.ensures.spares.clean honest)).stands opened)

pub returns-clause-spares : goal.returns-clause-spares
returns-clause-spares g c = c.walk-shown.ensures.spares
