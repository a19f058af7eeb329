-- The commits of a round as they are handed to the shelf below.
use Rattle.std.specs.Prelude.{◌≡◌, List, [], ◌∷◌, ◌++◌, ⊤, Option}
use Rattle.scim_audit.specs.declared.audit_rows.AuditRow.{AuditRow}
use Rattle.scim_cell.specs.Content.{Content}
use Rattle.scim_shelf.specs.declared.changes.Change.{Change}
use Rattle.scim_shelf.specs.declared.collections.Collection.{Collection}
use Rattle.scim_shelf.specs.declared.commits.Commit.{Commit}
use Rattle.scim_shelf.specs.Stores.{IsOld}
use Rattle.scim_shelf.specs.Collections.{IsCollection}
use Rattle.scim_shelf_cache.specs.declared.rounds.RoundCommit.{RoundCommit}
use Rattle.scim_shelf_cache.specs.Caches.{IsCommitOf}

-- The commits have the parts of those of a round, one for each, in order.
abbrev pub AreCommitsOf : List RoundCommit → List Commit → Type 0
AreCommitsOf [] [] = ⊤
AreCommitsOf (own ∷ owns) (c ∷ cs) = IsCommitOf own c × AreCommitsOf owns cs
AreCommitsOf _ _ = ⊥

-- A commit of this change with this row is added behind the others, with what the collection had before.
pub record IsNoted (change : Change) (row : AuditRow) (resources : Collection) (before after : List RoundCommit) : Type 0 where
  pub old : Option Content
  pub were : (cs : List Content) → IsCollection cs resources → IsOld cs change old
  pub added : after ≡ before ++ record { old = old; change = change; row = row } ∷ []
