-- The postcondition of a call that only reads.
use Rattle.std.specs.Prelude.{◌≡◌, ◌⊎◌, true, false, Bool, IsTrue, List, [], ◌∷◌, map, Result, IfOk, OnErr}
use Rattle.sqlite.specs.declared.error.Error.{Error}
use Rattle.sqlite.specs.declared.error.Error.TheVariants.{SqlInputError, SqliteFailure}
use Rattle.sqlite.specs.declared.error.ErrorCode.TheVariants.{TypeMismatch}
use Rattle.sqlite.specs.Effect.{Database}
use Rattle.sqlite.specs.Order.{Row}
use Rattle.sqlite.specs.State.{State, HasCleanDisk, IsUnchanged, Survives}
use Rattle.sqlite_resolve.specs.declared.error.CompileError.{CompileError}
use Rattle.scim_store_tables.specs.declared.queries.Table.{Table}
use Rattle.scim_store_tables.specs.declared.queries.Table.TheVariants.{Setting, Resource, Taken, Member, Audit, Secret}
use Rattle.scim_store_tables.specs.declared.versions.Version.{Version}
use Rattle.scim_store_tables.specs.Lists.{AreKeyed}
use Rattle.scim_store_tables.specs.Reading.{Rests, SparesIn, HasTablesIn, shown, shown_settings, owner_first, group_first}
use Rattle.scim_store_tables.specs.Looking.{NamesKnown, NamesUnknown}
use Rattle.scim_store_tables.specs.Whole.{AreInOrder}
use Rattle.scim_store_tables.specs.code.Keys.{key_alone, AreRising}
use Rattle.scim_store_tables.specs.Queries.{tree_of}

-- The postcondition of a call that only reads the tables of a version. It begins no transaction, and a crash
-- leaves only a state that a crash before the call could also leave. If the call succeeds, nothing is changed,
-- and the returned value satisfies `IsTold` for the database. After an error the connection is closed, or its
-- database is unchanged or as the last commit left it.
pub record OnlyAsks {T : Type 0} (version : Version) (IsTold : Database → T → Type 0) (old new : State) (result : Result T Error) : Type 0 where
  pub mode : old.in_transaction ≡ false → new.in_transaction ≡ false
  pub spares : SparesIn version old new
  pub told : HasCleanDisk new → HasTablesIn version old → IfOk result (λ x. IsUnchanged old new × IsTold old.now x)
  pub rests : HasCleanDisk new → HasTablesIn version old → OnErr result (Rests old new)

-- The postcondition of a query on a database of any schema. It begins no transaction, and a crash leaves only
-- a state that a crash before the call could also leave. If the call succeeds, nothing is changed, and the
-- returned value satisfies `IsTold` for the database. After an error the connection is closed, or its database
-- is unchanged or as the last commit left it.
pub record OnlyLooks {T : Type 0} (IsTold : Database → T → Type 0) (old new : State) (result : Result T Error) : Type 0 where
  pub mode : old.in_transaction ≡ false → new.in_transaction ≡ false
  pub survives : Survives old new (λ _. ⊥)
  pub told : HasCleanDisk new → IfOk result (λ x. IsUnchanged old new × IsTold old.now x)
  pub rests : HasCleanDisk new → OnErr result (Rests old new)

-- Whether the query for the version begins with 1 or 2.
abbrev pub TellsKnown : Database → Bool → Type 0
TellsKnown db true = NamesKnown db
TellsKnown db false = NamesUnknown db

-- The database refused a statement.
abbrev pub IsRefusal : Error → Type 0
IsRefusal e = ((fault : CompileError) × (e ≡ SqlInputError fault)) ⊎ (e ≡ SqliteFailure TypeMismatch)

-- The result of a test is true if and only if `P` holds.
pub record Decides (P : Type 0) (found : Bool) : Type 0 where
  pub yes : IsTrue found → P
  pub no : found ≡ false → ¬ P

-- The rows of one table, in the order in which they are read.
abbrev pub AreRows : Table → Database → List Row → Type 0
AreRows Setting db = AreInOrder [] (shown_settings db)
AreRows Resource db = AreInOrder (0 ∷ []) (shown db).resources
AreRows Taken db = AreInOrder (0 ∷ 1 ∷ 2 ∷ []) (map owner_first (shown db).taken)
AreRows Member db = AreInOrder (0 ∷ 1 ∷ []) (map group_first (shown db).member)
AreRows Audit db = AreInOrder (0 ∷ []) (shown db).audit
AreRows Secret db = AreInOrder (0 ∷ []) (shown db).secret

-- The keys of one table, sorted. They are strictly ascending numbers if and only if each key is a number and
-- none occurs twice.
pub record AreKeys (table : Table) (db : Database) (rows : List Row) : Type 0 where
  pub are : AreInOrder (0 ∷ []) (map key_alone (db.trees (tree_of table))) rows
  pub sound : AreRising rows → AreKeyed (db.trees (tree_of table))
  pub complete : AreKeyed (db.trees (tree_of table)) → AreRising rows

-- The result of a test is true if and only if each row of the table has a key and no key occurs twice.
abbrev pub DecidesKeyed : Table → Database → Bool → Type 0
DecidesKeyed table db = Decides (AreKeyed (db.trees (tree_of table)))
