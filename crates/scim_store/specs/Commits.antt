-- What commits in one transaction ask of the store before them.
use Rattle.std.specs.Prelude.{◌≡◌, ℕ, List, length}
use Rattle.scim_shelf.specs.Commits.{CanKeepAll, AreOld}
use Rattle.scim_shelf.specs.Stores.{Store}
use Rattle.scim_shelf.specs.declared.commits.Commit.{Commit}

-- Each change may be made to the store, each `old` is what the store has, and the audit has `rows` rows.
pub record AreDue (commits : List Commit) (rows : ℕ) (store : Store) : Type 0 where
  pub can : CanKeepAll commits store
  pub were : AreOld commits store
  pub rows_are : length store.audit ≡ rows

-- The shelf represents the store, each change may be made to it, and each `old` is what the store has.
pub record MayMakeAll {H : Type 0} (Stands : H → Store → Type 0) (shelf : H) (commits : List Commit) (store : Store) : Type 0 where
  pub stands : Stands shelf store
  pub can : CanKeepAll commits store
  pub were : AreOld commits store
