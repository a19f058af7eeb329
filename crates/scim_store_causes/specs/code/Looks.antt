-- The postcondition of a call that only reads.
use Rattle.std.specs.Prelude.{◌≡◌, false, IsTrue, Result, IfOk, OnErr}
use Rattle.sqlite.specs.declared.error.Error.{Error}
use Rattle.sqlite.specs.Effect.{Database}
use Rattle.sqlite.specs.State.{State, HasCleanDisk}
use Rattle.scim_store_tables.specs.declared.versions.Version.{Version}
use Rattle.scim_store_tables.specs.Reading.{Rests, SparesIn, HasTablesIn}

-- The connection shows the same database, and the last commit is the same.
pub record ShowsSame (old new : State) : Type 0 where
  pub was_open : IsTrue new.is_open → IsTrue old.is_open
  pub now_is : new.now ≡ old.now
  pub committed_is : new.committed ≡ old.committed

-- The postcondition of a call that only reads the tables of a version. It begins no transaction, and a crash
-- leaves only a state that a crash before the call could also leave. If the call succeeds, nothing is changed,
-- and the returned value satisfies `IsTold` for the database. After an error the connection is closed, or its
-- database is unchanged or as the last commit left it.
pub record Looks {T : Type 0} (version : Version) (IsTold : Database → T → Type 0) (old new : State) (result : Result T Error) : Type 0 where
  pub mode : old.in_transaction ≡ false → new.in_transaction ≡ false
  pub spares : SparesIn version old new
  pub told : HasCleanDisk new → HasTablesIn version old → IfOk result (λ x. ShowsSame old new × IsTold old.now x)
  pub rests : HasCleanDisk new → HasTablesIn version old → OnErr result (Rests old new)
