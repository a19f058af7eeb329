use Rattle.std.proofs.Common.{ap, inr, List, ℕ, subst, sym}
use Rattle.sqlite.specs.Held.{state}
use Rattle.scim_shelf_cache.specs.Caches.{lower_of}
use Rattle.scim_store.specs.Shelves.{IsKeptIn}
use Rattle.scim_store.specs.SqlShelves.{base_of, connection_of, rows_of}
use Rattle.scim_command_database.specs.Works.{KeepsStoreOf}
use Rattle.scim_command_database.proofs.WorkLemmas.{opened_kept, opened_keyed}
use Rattle.scim_command_database.proofs.works.open_cached.Goals as goal

pub returns-in-Err-fill_if-clause-refused : goal.returns-in-Err-fill_if-clause-refused
returns-in-Err-fill_if-clause-refused g c =
    let old = state g.S.Store c.args.connection in
    let shelf = c.in-Ok.shelf in
    let lower = lower_of c.fill_if.new.shelf in
    let honest = c.in-Err-fill_if.ensures.honest in
    let kept : KeepsStoreOf c.args.base.now old (state g.S.Store (connection_of lower)) (λ _. Unit {0}) =
    opened_kept c.args.base.now (base_of shelf) (base_of lower) old (state g.S.Store (connection_of shelf)) (state g.S.Store (connection_of lower)) (rows_of shelf) (rows_of lower) (λ _. Unit {0})
    c.in-Ok.ensures.base
    (rw c.with_contents-shelf.ensures.lower at honest)
    c.in-Ok.ensures.opened
    (λ store keyed stands. (rw c.with_contents-shelf.ensures.lower at c.in-Err-fill_if.ensures.lower) store stands)
    (λ _ _ _. tt) in
    let same = ap connection_of c.into_lower.ensures in
    inr (c.in-Err-fill_if.ensures.fault.0, c.in-Err-fill_if.ensures.fault.1, rw (c.into_connection.ensures.connection, same) kept)

pub returns-in-Ok-fill_if-clause-opened : goal.returns-in-Ok-fill_if-clause-opened
returns-in-Ok-fill_if-clause-opened g c = λ honest.
    let shelf = c.in-Ok.shelf in
    let old = state g.S.Store c.args.connection in
    let opened = state g.S.Store (connection_of shelf) in
    let found = c.in-Ok.ensures.opened ((rw c.with_contents-shelf.ensures.lower at c.fill_if.ensures.honest) honest) in
    let store = found.0 in
    let stands = subst (λ (b : List ℕ). IsKeptIn b opened (rows_of shelf) store) (sym c.in-Ok.ensures.base) found.1.kept in
    let cached = c.with_contents-shelf.ensures.stands store stands (λ clean. c.in-Ok.ensures.copied c.contents_for-contents.ensures store stands clean) in
    (store, found.1.opens, (c.fill_if.ensures.store store (cached, opened_keyed c.args.base.now old.now store found.1.opens)).0)
