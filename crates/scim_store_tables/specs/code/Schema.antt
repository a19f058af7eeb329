-- The parts of the schema that the code compares one by one.
use Rattle.std.specs.Prelude.{◌≡◌, true, false, [], ◌∷◌, codes, List, ℕ}
use Rattle.sqlite.specs.Table.{Table}
use Rattle.sqlite_schema.specs.declared.schema.Column.{Column}
use Rattle.sqlite.specs.Kind.TheVariants.{Integer, Text}
use Rattle.sqlite_schema.specs.declared.schema.Index.{Index}
use Rattle.scim_store_tables.specs.Tables.{column, setting_table, resource_table, taken_table, member_table, audit_table, secret_table}

-- A table has no CHECK constraint, no foreign key, no computed default and no AUTOINCREMENT.
pub record IsBare (table : Table) : Type 0 where
  pub checks : table.checks ≡ []
  pub references : table.references ≡ []
  pub computed : table.computed ≡ []
  pub places : table.stamps.places ≡ []
  pub terms : table.stamps.terms ≡ []
  pub formats : table.stamps.formats ≡ []
  pub counted : table.is_counted ≡ false

-- A unique, ascending index, as SQLite creates it for a primary key of text columns.
abbrev pub index : List ℕ → ℕ → ℕ → List ℕ → Index
index name tree table columns = record { name = name; tree = tree; table = table; columns = columns; order = record { digits = 0 }; is_unique = true }

-- The index of `setting`.
abbrev pub setting_index : Index
setting_index = index (codes "sqlite_autoindex_setting_1") 1 0 (1 ∷ [])

-- The index of `resource`.
abbrev pub resource_index : Index
resource_index = index (codes "sqlite_autoindex_resource_1") 3 2 (1 ∷ [])

-- The index of `taken`.
abbrev pub taken_index : Index
taken_index = index (codes "sqlite_autoindex_taken_1") 5 4 (1 ∷ 2 ∷ [])

-- The index of `member`.
abbrev pub member_index : Index
member_index = index (codes "sqlite_autoindex_member_1") 7 6 (1 ∷ 2 ∷ [])

-- The index of `secret`.
abbrev pub secret_index : Index
secret_index = index (codes "sqlite_autoindex_secret_1") 10 9 (1 ∷ [])

-- All indexes of the schema of version 1, in order.
abbrev pub old_indexes : List Index
old_indexes = setting_index ∷ resource_index ∷ taken_index ∷ member_index ∷ []

-- All indexes of the schema of version 2, in order.
abbrev pub store_indexes : List Index
store_indexes = setting_index ∷ resource_index ∷ taken_index ∷ member_index ∷ secret_index ∷ []

-- All tables of the schema of version 1, in order, with their trees.
abbrev pub old_tables : List Table
old_tables = record setting_table { tree = 0 } ∷ record resource_table { tree = 2 } ∷ record taken_table { tree = 4 } ∷ record member_table { tree = 6 } ∷ record audit_table { tree = 8 } ∷ []

-- All tables of the schema of version 2, in order, with their trees.
abbrev pub store_tables : List Table
store_tables = record setting_table { tree = 0 } ∷ record resource_table { tree = 2 } ∷ record taken_table { tree = 4 } ∷ record member_table { tree = 6 } ∷ record audit_table { tree = 8 } ∷ record secret_table { tree = 9 } ∷ []

-- The last three columns of `audit`.
abbrev pub last_columns : List Column
last_columns = column (codes "rule") Integer false ∷ column (codes "leaf") Text false ∷ column (codes "refusal") Integer false ∷ []

-- The last six columns of `audit`.
abbrev pub middle_columns : List Column
middle_columns = column (codes "kind") Integer false ∷ column (codes "id") Text false ∷ column (codes "decided") Integer false ∷ last_columns

-- All ten columns of `audit`.
abbrev pub audit_columns : List Column
audit_columns = column (codes "number") Integer false ∷ column (codes "moment") Integer false ∷ column (codes "client") Text false ∷ column (codes "op") Integer false ∷ middle_columns
