use Rattle.std.proofs.Common.{◌≡◌, ◌+◌, take}
use Rattle.scim_store_tables.proofs.Facts.{HasDone}
use Rattle.scim_shelf.specs.Commits.{after_all}
use Rattle.scim_store.specs.Commits.{AreDue}
use Rattle.scim_store.specs.Committing.{Changes}
use Rattle.scim_store.proofs.committing.write_commits.Given as goal

-- the first commits are made
abbrev pub invariant-loop-commit : goal.invariant-loop-commit
invariant-loop-commit g l = (l.number ≡ l.rows + l.commit-index) × HasDone g.S.Store l.fn.tx l.tx (Changes l.base (after_all (take l.commit-index l.commits)) (AreDue (take l.commit-index l.commits) l.rows))
