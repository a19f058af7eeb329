-- The schema while the tables are created.
use Rattle.std.specs.Prelude.{◌≡◌, ℕ, codes, List, [], ◌∷◌}
use Rattle.std.specs.List.{AllByRecursion}
use Rattle.sqlite.specs.Schema.{Schema}
use Rattle.sqlite.specs.Change.{created}
use Rattle.sqlite.specs.Effect.{Database}
use Rattle.scim_store_tables.specs.declared.queries.Table.{Table as Name}
use Rattle.scim_store_tables.specs.declared.queries.Table.TheVariants.{Setting, Resource, Taken, Member, Audit, Secret}
use Rattle.scim_store_tables.specs.Tables.{no_schema, old_schema, store_schema, setting_table, resource_table, taken_table, member_table}

-- The schema with the first table.
abbrev pub schema_1 : Schema
schema_1 = created no_schema setting_table

-- The schema with the first two tables.
abbrev pub schema_2 : Schema
schema_2 = created schema_1 resource_table

-- The schema with the first three tables.
abbrev pub schema_3 : Schema
schema_3 = created schema_2 taken_table

-- The schema with the first four tables.
abbrev pub schema_4 : Schema
schema_4 = created schema_3 member_table

-- The database has this schema, and the trees `empty` have no rows.
pub record IsMade (schema : Schema) (empty : List ℕ) (db : Database) : Type 0 where
  pub schema_is : db.schema ≡ schema
  pub none : AllByRecursion (λ t. db.trees t ≡ []) empty

-- The statement that creates a table.
abbrev pub creation : Name → List ℕ
creation Setting = codes "CREATE TABLE setting (name TEXT PRIMARY KEY, number INTEGER NOT NULL)"
creation Resource = codes "CREATE TABLE resource (id TEXT PRIMARY KEY, kind INTEGER NOT NULL, document TEXT NOT NULL)"
creation Taken = codes "CREATE TABLE taken (attribute TEXT, folded TEXT, id TEXT, PRIMARY KEY (attribute, folded))"
creation Member = codes "CREATE TABLE member (value TEXT, group_id TEXT, PRIMARY KEY (value, group_id))"
creation Audit = codes "CREATE TABLE audit (number INTEGER PRIMARY KEY, moment INTEGER, client TEXT, op INTEGER, kind INTEGER, id TEXT, decided INTEGER, rule INTEGER, leaf TEXT, refusal INTEGER)"
creation Secret = codes "CREATE TABLE secret (id TEXT PRIMARY KEY, door_code TEXT NOT NULL)"

-- The database has exactly the tables that come before this one in the schema, and they have no rows.
abbrev pub IsBefore : Name → Database → Type 0
IsBefore Setting = λ db. db.schema ≡ no_schema
IsBefore Resource = IsMade schema_1 (0 ∷ [])
IsBefore Taken = IsMade schema_2 (2 ∷ 0 ∷ [])
IsBefore Member = IsMade schema_3 (4 ∷ 2 ∷ 0 ∷ [])
IsBefore Audit = IsMade schema_4 (6 ∷ 4 ∷ 2 ∷ 0 ∷ [])
IsBefore Secret = IsMade old_schema (8 ∷ 6 ∷ 4 ∷ 2 ∷ 0 ∷ [])

-- The database has exactly the tables up to and including this one, and they have no rows.
abbrev pub IsBehind : Name → Database → Type 0
IsBehind Setting = IsBefore Resource
IsBehind Resource = IsBefore Taken
IsBehind Taken = IsBefore Member
IsBehind Member = IsBefore Audit
IsBehind Audit = IsBefore Secret
IsBehind Secret = IsMade store_schema (9 ∷ 8 ∷ 6 ∷ 4 ∷ 2 ∷ 0 ∷ [])
