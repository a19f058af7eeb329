-- The query for the version in a table `setting` of any program.
use Rattle.std.specs.Prelude.{◌≡◌, ◌⊎◌, ℕ, pos, codes, List, [], ◌∷◌, None, Ok, Err}
use Rattle.sqlite.specs.declared.types.Value.TheVariants.{Int}
use Rattle.sqlite.specs.Effect.{Database, Reads, RefusesToRead}
use Rattle.sqlite.specs.declared.error.Error.TheVariants.{SqliteFailure}
use Rattle.sqlite.specs.declared.error.ErrorCode.TheVariants.{TypeMismatch}
use Rattle.sqlite.specs.Listing.{understood, reads_listing, IsSourceOf}
use Rattle.sqlite.specs.Order.{Row, column}
use Rattle.sqlite_resolve.specs.declared.compiled.Compiled.{Compiled}
use Rattle.sqlite_resolve.specs.declared.error.CompileError.{CompileError}
use Rattle.scim_store_tables.specs.Lists.{version_number}
use Rattle.scim_store_tables.specs.declared.versions.Version.{Version}

-- The number of the setting `version`, in any table `setting` that has these columns.
abbrev pub version_text : List ℕ
version_text = codes "SELECT number FROM setting WHERE name = 'version' LIMIT 1"

-- The rows are a result of the text as a query without parameters.
abbrev pub IsResultOf : List ℕ → Database → List Row → Type 0
IsResultOf text db rows =
    (c : Compiled) × (source : Database) × (understood db.schema text ≡ Ok c) × IsSourceOf (reads_listing db.schema text) db source × Reads c.command source [] rows

-- The text isn't a statement in the schema of the database, or SQLite would convert a value in the query, and
-- the database refuses that.
abbrev pub IsRefusedBy : List ℕ → Database → Type 0
IsRefusedBy text db =
    ((fault : CompileError) × (understood db.schema text ≡ Err fault))
    ⊎ ((c : Compiled) × (source : Database) × (understood db.schema text ≡ Ok c) × IsSourceOf (reads_listing db.schema text) db source × RefusesToRead None c.command source [] (SqliteFailure TypeMismatch))

-- The first row has the number of a version, 1 or 2, in its first column.
abbrev pub BeginsWithVersion : List Row → Type 0
BeginsWithVersion [] = ⊥
BeginsWithVersion (row ∷ more) = (version : Version) × (column row 0 ≡ Int (pos (version_number version)))

-- A result of the query for the version begins with 1 or 2.
abbrev pub NamesKnown : Database → Type 0
NamesKnown db = (rows : List Row) × IsResultOf version_text db rows × BeginsWithVersion rows

-- A result of the query for the version begins with neither 1 nor 2, or the query is refused.
abbrev pub NamesUnknown : Database → Type 0
NamesUnknown db = ((rows : List Row) × IsResultOf version_text db rows × (¬ BeginsWithVersion rows)) ⊎ IsRefusedBy version_text db
