use Rattle.std.proofs.Common.{◌≡◌, take}
use Rattle.scim_shelf.specs.Stores.{Store}
use Rattle.scim_shelf.specs.Commits.{CanKeepAll, after_all}
use Rattle.scim_shelf.specs.Collections.{IsCollection}
use Rattle.scim_shelf.proofs.memory.commit_each.Given as goal

-- the first commits are made
abbrev pub invariant-loop-commit : goal.invariant-loop-commit
invariant-loop-commit l = (store : Store) → IsCollection store.resources l.fn.shelf.collection × (l.fn.shelf.audit.items ≡ store.audit) → CanKeepAll l.commits store
    → IsCollection (after_all (take l.commit-index l.commits) store).resources l.shelf.collection × (l.shelf.audit.items ≡ (after_all (take l.commit-index l.commits) store).audit)
