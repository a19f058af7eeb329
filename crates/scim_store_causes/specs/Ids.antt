-- Rows with the id of a resource, and rows without one.
use Rattle.std.specs.Prelude.{◌≡◌, ℕ, List, [], map, All, Contains}
use Rattle.sqlite.specs.declared.types.Value.TheVariants.{Text}
use Rattle.sqlite.specs.Effect.{Database}
use Rattle.sqlite.specs.Order.{Row, column}
use Rattle.scim_cell.specs.Ids.{IsId, id_text}
use Rattle.scim_store_tables.specs.declared.queries.Table.{Table}
use Rattle.scim_store_tables.specs.declared.queries.Table.TheVariants.{Setting, Resource, Taken, Member, Audit, Secret}
use Rattle.scim_store_tables.specs.declared.database_kinds.TableRows.{TableRows}
use Rattle.scim_store_tables.specs.declared.versions.Version.{Version}
use Rattle.scim_store_tables.specs.Reading.{shown_in, owner_first, group_first}

-- The bytes are the text of an id.
abbrev pub IsTextOfId : List ℕ → Type 0
IsTextOfId bytes = (id : List ℕ) × IsId id × (bytes ≡ id_text id)

-- The first column of a row is the text of an id.
abbrev pub HasId : Row → Type 0
HasId row = (id : List ℕ) × IsId id × (column row 0 ≡ Text (id_text id))

-- One of the rows hasn't the text of an id in its first column.
abbrev pub HasRowWithoutId : List Row → Type 0
HasRowWithoutId rows = (row : Row) × Contains rows row × (¬ HasId row)

-- The rows of a table that were read, with the id of the resource to which each belongs in the first column.
abbrev pub rows_of : TableRows → Table → List Row
rows_of rows Resource = rows.resources.items
rows_of rows Taken = rows.names.items
rows_of rows Member = rows.members.items
rows_of rows Secret = rows.secrets.items
rows_of rows Setting = []
rows_of rows Audit = []

-- Each row that was read has an id.
abbrev pub HaveAllIds : TableRows → Type 0
HaveAllIds rows = (table : Table) → All HasId (rows_of rows table)

-- A row of the table that was read has no id.
abbrev pub HasReadRowWithoutId : TableRows → Table → Type 0
HasReadRowWithoutId rows table = HasRowWithoutId (rows_of rows table)

-- The rows that a version shows of a table, with the id of the resource to which each belongs in the first column.
abbrev pub shown_rows : Version → Database → Table → List Row
shown_rows version db Resource = (shown_in version db).resources
shown_rows version db Taken = map owner_first (shown_in version db).taken
shown_rows version db Member = map group_first (shown_in version db).member
shown_rows version db Secret = (shown_in version db).secret
shown_rows version db Setting = []
shown_rows version db Audit = []
