-- SQL texts as queries on one of the tables, and their results.
use Rattle.std.specs.Prelude.{◌≡◌, ◌≤◌, ℕ, false, IsTrue, List, [], Result, Ok, Err, IfOk, OnOk, OnErr}
use Rattle.std.specs.Global.{Vec}
use Rattle.sqlite.specs.declared.error.Error.{Error}
use Rattle.sqlite.specs.Command.{Command}
use Rattle.sqlite.specs.Command.TheVariants.{Select, Nothing}
use Rattle.sqlite.specs.Given.{IsPlain}
use Rattle.sqlite.specs.Listing.{understood, reads_listing}
use Rattle.sqlite.specs.Order.{Row}
use Rattle.sqlite.specs.Program.{overlay}
use Rattle.sqlite.specs.Query.{Query, IsAnswer}
use Rattle.sqlite.specs.State.{State, HasCleanDisk, IsUnchanged}
use Rattle.sqlite.specs.View.{doubt}
use Rattle.sqlite_resolve.specs.declared.compiled.Compiled.{Compiled}
use Rattle.sqlite_resolve.specs.declared.error.CompileError.{CompileError}
use Rattle.scim_store_tables.specs.Tables.{schema_of}
use Rattle.scim_store_tables.specs.Reading.{Rests, SparesIn}
use Rattle.scim_store_tables.specs.declared.versions.Version.{Version}

-- The command that a text compiles to; `Nothing` if it doesn't compile.
abbrev pub asked : Result Compiled CompileError → Command
asked (Ok c) = c.command
asked (Err e) = Nothing

-- In the schema of a version, the text compiles to this query.
pub record IsAsk (version : Version) (text : List ℕ) (q : Query) : Type 0 where
  pub names : List (List ℕ)
  pub command : asked (understood (schema_of version) text) ≡ Select (record { lets = []; body = q }) names
  pub plain : IsPlain (understood (schema_of version) text)
  pub unlisted : reads_listing (schema_of version) text ≡ false

-- The rows are a result of the query, and nothing is changed.
pub record IsAnswered (q : Query) (params : Row) (old new : State) (rows : List Row) : Type 0 where
  pub unchanged : IsUnchanged old new
  pub answer : IsAnswer q (overlay old.now.trees []) params rows

-- The postcondition of running an SQL text. No transaction is begun. If the text is a query on the
-- tables of a version, and the database has these tables, the rows are the result of the query, and a crash
-- leaves only a state that a crash before the call could also leave. After an error the connection is closed,
-- or its database is unchanged or as the last commit left it.
pub record IsAsked (text : List ℕ) (params : Row) (old new : State) (result : Result (Vec Row) Error) : Type 0 where
  pub mode : old.in_transaction ≡ false → new.in_transaction ≡ false
  pub clean : doubt old.is_clean ≤ doubt new.is_clean
  pub spares : (version : Version) (q : Query) → IsAsk version text q → SparesIn version old new
  pub was_open : HasCleanDisk new → OnOk result (IsTrue old.is_open)
  pub read : HasCleanDisk new → IfOk result (λ rows. (version : Version) (q : Query) → IsAsk version text q → old.now.schema ≡ schema_of version → IsAnswered q params old new rows.items)
  pub rests : HasCleanDisk new → OnErr result (Rests old new)
