use Rattle.std.proofs.Common.{rules}
use Rattle.sqlite.specs.Held.{state}
use Rattle.scim_shelf.specs.Commits.{after_all}
use Rattle.scim_store.specs.Commits.{AreDue}
use Rattle.scim_store.proofs.ShelfLemmas.{told_ok, whole_left, all_kept, clean_before}
use Rattle.scim_store.proofs.sql_shelf.SqlShelfBatchShelf.commit_all.Goals as goal

pub returns-clause-ok : goal.returns-clause-ok
returns-clause-ok g c =
    let base = c.args.self.now.base in
    let rows = c.args.self.now.rows in
    let old = state g.S.Store c.args.self.now.connection in
    let new = state g.S.Store c.commit_all-done.new.conn in
    all_kept base c.args.commits.now rows c.told_commit.new.rows old new c.commit_all-done.result c.told_commit.result (search rules)
    (λ clean. clean_before old new c.commit_all-done.ensures.crash.clean clean) (rw c.as_str-base.ensures at c.commit_all-done.ensures.made)

pub returns-clause-disk : goal.returns-clause-disk
returns-clause-disk g c =
    let base = c.args.self.now.base in
    let all = c.args.commits.now in
    let rows = c.args.self.now.rows in
    let old = state g.S.Store c.args.self.now.connection in
    let new = state g.S.Store c.commit_all-done.new.conn in
    whole_left base (after_all all) (AreDue all rows) _ old new (λ store may. record { can = may.can; were = may.were; rows_are = may.stands.rows_are }) (λ store may. may.stands.stored) c.told_commit.result
    (rw c.as_str-base.ensures at c.commit_all-done.ensures.crash) (λ clean. told_ok _ _ c.commit_all-done.result c.told_commit.result c.told_commit.ensures.ok (rw c.as_str-base.ensures at (c.commit_all-done.ensures.durable clean)))
