use Rattle.std.proofs.Common.{◌+◌}
use Rattle.sqlite.specs.Held.{state}
use Rattle.scim_shelf.specs.Stores.{after}
use Rattle.scim_store.specs.Committing.{IsDue}
use Rattle.scim_store.proofs.ShelfLemmas.{told_ok, whole_left, due_of}
use Rattle.scim_store.proofs.sql_shelf.SqlShelfShelf.commit.Goals as goal

pub returns-clause-disk : goal.returns-clause-disk
returns-clause-disk g c =
    let base = c.args.self.now.base in
    let rows = c.args.self.now.rows in
    let old = state g.S.Store c.args.self.now.connection in
    let new = state g.S.Store c.commit_change-done.new.conn in
    whole_left base (after c.args.change c.args.row) (IsDue c.args.change (rows + 1)) _ old new (λ store may. due_of base old rows c.args.change store may.0 may.1) (λ store may. may.0.stored) c.told_commit.result
    (rw c.as_str-base.ensures at c.commit_change-done.ensures.crash) (λ clean. told_ok _ _ c.commit_change-done.result c.told_commit.result c.told_commit.ensures.ok (rw c.as_str-base.ensures at (c.commit_change-done.ensures.durable clean)))
