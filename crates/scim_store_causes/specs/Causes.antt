-- Why a database can't be used as a store.
use Rattle.std.specs.Prelude.{◌≡◌, All, Option, Some, None, ⊤}
use Rattle.sqlite.specs.Effect.{Database}
use Rattle.scim_store_tables.specs.declared.versions.Version.{Version}
use Rattle.scim_store_tables.specs.declared.queries.Table.{Table}
use Rattle.scim_store_tables.specs.declared.database_kinds.DatabaseKind.{DatabaseKind}
use Rattle.scim_store_tables.specs.declared.database_kinds.DatabaseKind.TheVariants as kind
use Rattle.scim_store_tables.specs.Objects.{HasOnlyOurs}
use Rattle.scim_store_tables.specs.Tables.{schema_of}
use Rattle.scim_store_tables.specs.Whole.{Is, HasFurtherSettings}
use Rattle.scim_store_causes.specs.declared.unusable_causes.UnusableCause.{UnusableCause}
use Rattle.scim_store_causes.specs.declared.unusable_causes.UnusableCause.TheVariants.{Object, Tables, Settings, NoId, Audit, File}
use Rattle.scim_store_causes.specs.Objects.{IsForeignCopy}
use Rattle.scim_store_causes.specs.Ids.{HasId, HasRowWithoutId, shown_rows}
use Rattle.scim_store_causes.specs.Audit.{HasValidAudit, ExplainsAudit}

-- The database has the tables of a version, and a row of this table has no id of a resource.
abbrev pub HasRowWithoutIdIn : Database → Table → Type 0
HasRowWithoutIdIn db table = (version : Version) × (db.schema ≡ schema_of version) × HasRowWithoutId (shown_rows version db table)

-- The cause is true of the database. The database's own error says nothing of the rows.
abbrev pub IsCauseIn : Database → UnusableCause → Type 0
IsCauseIn db (Object copy) = IsForeignCopy db.schema copy
IsCauseIn db Tables = Is db kind.Foreign
IsCauseIn db Settings = (version : Version) × HasFurtherSettings version db
IsCauseIn db (NoId table) = HasRowWithoutIdIn db table
IsCauseIn db (Audit cause) = ExplainsAudit db (Some cause)
IsCauseIn db (File cause) = ⊤

-- Each row of the tables of a version has the id of a resource, and the audit is valid.
abbrev pub HasNoCauseInRows : Version → Database → Type 0
HasNoCauseInRows version db = ((table : Table) → All HasId (shown_rows version db table)) × HasValidAudit db

-- A cause that is true of the database; `None` if the rows of the tables of the version give none.
abbrev pub ExplainsRows : Version → Database → Option UnusableCause → Type 0
ExplainsRows version db None = HasNoCauseInRows version db
ExplainsRows version db (Some cause) = IsCauseIn db cause

-- A database of this kind gives no cause by its rows.
abbrev pub IsUsable : Database → DatabaseKind → Type 0
IsUsable db kind.Empty = ⊤
IsUsable db kind.WrongVersion = ⊤
IsUsable db kind.Foreign = ⊥
IsUsable db (kind.Altered version rows) = ⊥
IsUsable db (kind.Tables version rows) = HasNoCauseInRows version db

-- The tables and their rows give no cause.
abbrev pub HasNoCause : Database → Type 0
HasNoCause db = (found : DatabaseKind) × Is db found × IsUsable db found

-- A cause that is true of the database; `None` if the tables and their rows give none.
abbrev pub ExplainsTables : Database → Option UnusableCause → Type 0
ExplainsTables db None = HasNoCause db
ExplainsTables db (Some cause) = IsCauseIn db cause

-- A cause that is true of the database; `None` if the schema has no other names than the six tables and their indexes,
-- and the tables and their rows give none.
abbrev pub Explains : Database → Option UnusableCause → Type 0
Explains db None = HasOnlyOurs db.schema × HasNoCause db
Explains db (Some cause) = IsCauseIn db cause
