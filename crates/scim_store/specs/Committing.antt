-- The store after a commit.
use Rattle.std.specs.Prelude.{◌≡◌, ℕ, List, IsTrue, Option, length, ◌+◌}
use Rattle.sqlite.specs.Effect.{Database}
use Rattle.sqlite.specs.Tree.{Trees}
use Rattle.sqlite.specs.State.{State}
use Rattle.scim_cell.specs.Content.{Content}
use Rattle.scim_shelf.specs.declared.changes.Change.{Change}
use Rattle.scim_shelf.specs.Stores.{Store, CanKeep, IsOld}
use Rattle.scim_store_rows.specs.Stands.{StandsFor}

-- If the connection is open, its tables hold the store, and all changes are committed.
pub record HasStore (base : List ℕ) (s : State) (store : Store) : Type 0 where
  pub stands : IsTrue s.is_open → StandsFor base s.now store
  pub settled : IsTrue s.is_open → s.now ≡ s.committed

-- A change may be made to the store, and `number` is the number of the next audit row.
pub record IsDue (change : Change) (number : ℕ) (store : Store) : Type 0 where
  pub can : CanKeep store change
  pub next : number ≡ length store.audit + 1

-- A change may be made to the store, `number` is the number of the next audit row, and `old` is the stored
-- resource with the id of the change, if any.
pub record IsDueOver (old : Option Content) (change : Change) (number : ℕ) (store : Store) : Type 0 where
  pub due : IsDue change number store
  pub was : IsOld store.resources change old

-- If the old tables hold a valid store that satisfies `May`, the new tables hold the store that `next` gives.
abbrev pub Changes : List ℕ → (Store → Store) → (Store → Type 0) → Database → Database → Type 0
Changes base next May old new = (store : Store) → StandsFor base old store → May store → StandsFor base new (next store)

-- `trees` are the trees of a database whose tables hold the store.
abbrev pub AreOf : List ℕ → Store → Trees → Type 0
AreOf base store trees = (db : Database) × (trees ≡ db.trees) × StandsFor base db store

-- If the connection is open after the call, it was open before, and its database and the last commit are
-- unchanged.
pub record Stays (old new : State) : Type 0 where
  pub was_open : IsTrue new.is_open → IsTrue old.is_open
  pub now : IsTrue new.is_open → new.now ≡ old.now
  pub committed : IsTrue new.is_open → new.committed ≡ old.committed

-- The tables don't hold a valid store.
abbrev pub StandForNone : List ℕ → Database → Type 0
StandForNone base db = (store : Store) → StandsFor base db store → ⊥
