-- A step inside a transaction, and a whole transaction.
use Rattle.std.specs.Prelude.{◌≡◌, IsTrue, Result, OnOk, IfOk}
use Rattle.sqlite_trees.specs.declared.store.Store.{Ghosts}
use Rattle.sqlite.specs.declared.transaction.Transaction.{Transaction}
use Rattle.sqlite.specs.Tree.{Trees}
use Rattle.sqlite.specs.Effect.{Database}
use Rattle.sqlite.specs.Held.{state}
use Rattle.sqlite.specs.State.{State, HasCleanDisk, KeepsCommit, Survives}

-- If the result is Ok, the transaction is still open, and `P` relates the old database to the new one.
abbrev pub Goes : {T E : Type 0} → State → State → Result T E → (Database → Database → Type 0) → Type 0
Goes old new result P = HasCleanDisk new → IsTrue old.in_transaction → OnOk result (IsTrue new.in_transaction × P old.now new.now)

-- If the result is Ok, the transaction is still open, and `P` relates the returned value, the old database
-- and the new one.
abbrev pub GoesBy : {T E : Type 0} → State → State → Result T E → (T → Database → Database → Type 0) → Type 0
GoesBy old new result P = HasCleanDisk new → IsTrue old.in_transaction → IfOk result (λ answer. IsTrue new.in_transaction × P answer old.now new.now)

-- Nothing is committed.
abbrev pub Keeps : State → State → Type 0
Keeps old new = HasCleanDisk new → KeepsCommit old new

-- The postcondition of a step inside a transaction. The connection stays the same. If the result is Ok, the
-- transaction is still open, and `P` relates the old database to the new one. Nothing is committed, and a
-- crash leaves only a state that a crash before the step could also leave.
pub record DoesIn {S T E : Type 0} (g : Ghosts S) (old new : Transaction S) (result : Result T E) (P : Database → Database → Type 0) : Type 0 where
  pub same_reference : new.conn.ghost_name ≡ old.conn.ghost_name
  pub went : Goes (state g old.conn.now) (state g new.conn.now) result P
  pub kept : Keeps (state g old.conn.now) (state g new.conn.now)
  pub survives : Survives (state g old.conn.now) (state g new.conn.now) (λ _. ⊥)

-- The postcondition of a step inside a transaction. The connection stays the same. If the result is Ok, the
-- transaction is still open, and `P` relates the returned value, the old database and the new one. Nothing is
-- committed, and a crash leaves only a state that a crash before the step could also leave.
pub record DoesBy {S T E : Type 0} (g : Ghosts S) (old new : Transaction S) (result : Result T E) (P : T → Database → Database → Type 0) : Type 0 where
  pub same_reference : new.conn.ghost_name ≡ old.conn.ghost_name
  pub went : GoesBy (state g old.conn.now) (state g new.conn.now) result P
  pub kept : Keeps (state g old.conn.now) (state g new.conn.now)
  pub survives : Survives (state g old.conn.now) (state g new.conn.now) (λ _. ⊥)

-- If the old database satisfies `Before`, the new one satisfies `Behind`.
abbrev pub Makes : (Database → Type 0) → (Database → Type 0) → Database → Database → Type 0
Makes Before Behind old new = Before old → Behind new

-- A transaction has been committed. `P` relates the database before the transaction to the database after it.
pub record Became (old new : State) (P : Database → Database → Type 0) : Type 0 where
  pub was_open : IsTrue old.is_open
  pub is_open : IsTrue new.is_open
  pub settled : new.now ≡ new.committed
  pub changed : P old.now new.now

-- The connection is closed, or its database is as the last commit left it.
pub record Undoes (old new : State) : Type 0 where
  pub was_open : IsTrue new.is_open → IsTrue old.is_open
  pub now : IsTrue new.is_open → new.now ≡ old.committed
  pub committed : IsTrue new.is_open → new.committed ≡ old.committed

-- `trees` are the trees of a database `db` for which `P old db` is true. They may be left on the disk, since a
-- commit writes the trees of such a database.
abbrev pub Leaves : (Database → Database → Type 0) → Database → Trees → Type 0
Leaves P old trees = (db : Database) × (trees ≡ db.trees) × P old db
