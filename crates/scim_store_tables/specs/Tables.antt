-- The tables of a database file, in versions 1 and 2.
use Rattle.std.specs.Prelude.{true, false, Bool, [], ◌∷◌, Some, None, codes, List, ℕ}
use Rattle.sqlite.specs.Collation.TheVariants.{Binary}
use Rattle.sqlite.specs.declared.types.Value.TheVariants.{Null}
use Rattle.sqlite.specs.Table.{Table}
use Rattle.sqlite.specs.Schema.{Schema}
use Rattle.sqlite.specs.Kind.{Kind}
use Rattle.sqlite_schema.specs.declared.schema.Column.{Column}
use Rattle.sqlite.specs.Kind.TheVariants.{Integer, Text}
use Rattle.sqlite.specs.Change.{created}
use Rattle.scim_store_tables.specs.declared.versions.Version.{Version}
use Rattle.scim_store_tables.specs.declared.versions.Version.TheVariants.{One, Two}

-- The schema without tables, indexes and views.
abbrev pub no_schema : Schema
no_schema = record { tables = []; indexes = []; views = [] }

-- A column with this name, kind and NOT NULL flag, the binary collation and no default.
abbrev pub column : List ℕ → Kind → Bool → Column
column name kind not_null = record { name = name; kind = kind; is_strict = false; not_null = not_null; default = Null; collation = Binary }

-- A table with these columns, a primary key and no other table constraint. `primary` lists the places of the
-- columns of the key, counted from 1. The tree of the table is set when the table is created.
abbrev pub table : List ℕ → List Column → List ℕ → Table
table name columns primary = record {
  name = name;
  tree = 0;
  columns = columns;
  key = None;
  primary = primary;
  uniques = primary ∷ [];
  orders = (record { digits = 0 }) ∷ [];
  checks = [];
  references = [];
  computed = [];
  stamps = record { places = []; terms = []; formats = [] };
  is_counted = false;
}

-- The table `setting`, whose only row has the version of the tables.
abbrev pub setting_table : Table
setting_table = table (codes "setting") (column (codes "name") Text false ∷ column (codes "number") Integer true ∷ []) (1 ∷ [])

-- The table `resource`: each resource with its kind, as a number, and its document.
abbrev pub resource_table : Table
resource_table = table (codes "resource") (column (codes "id") Text false ∷ column (codes "kind") Integer true ∷ column (codes "document") Text true ∷ []) (1 ∷ [])

-- The table `taken`: each unique name in use with the id of its owner.
abbrev pub taken_table : Table
taken_table = table (codes "taken") (column (codes "attribute") Text false ∷ column (codes "folded") Text false ∷ column (codes "id") Text false ∷ []) (1 ∷ 2 ∷ [])

-- The table `member`: the members of the groups.
abbrev pub member_table : Table
member_table = table (codes "member") (column (codes "value") Text false ∷ column (codes "group_id") Text false ∷ []) (1 ∷ 2 ∷ [])

-- The table `audit`, whose column `number` is the rowid.
abbrev pub audit_table : Table
audit_table = record {
  name = codes "audit";
  tree = 0;
  columns = column (codes "number") Integer false ∷ column (codes "moment") Integer false ∷ column (codes "client") Text false ∷ column (codes "op") Integer false ∷ column (codes "kind") Integer false
      ∷ column (codes "id") Text false ∷ column (codes "decided") Integer false ∷ column (codes "rule") Integer false ∷ column (codes "leaf") Text false ∷ column (codes "refusal") Integer false ∷ [];
  key = Some 0;
  primary = 0 ∷ [];
  uniques = [];
  orders = [];
  checks = [];
  references = [];
  computed = [];
  stamps = record { places = []; terms = []; formats = [] };
  is_counted = false;
}

-- The table `secret`, which only version 2 has: each door code with the id of its user.
abbrev pub secret_table : Table
secret_table = table (codes "secret") (column (codes "id") Text false ∷ column (codes "door_code") Text true ∷ []) (1 ∷ [])

-- The schema of version 1: exactly the first five tables, in this order. Their trees are 0, 2, 4, 6 and 8. Each
-- table except the last has an index, in the next tree.
abbrev pub old_schema : Schema
old_schema = created (created (created (created (created no_schema setting_table) resource_table) taken_table) member_table) audit_table

-- The schema of version 2: exactly the six tables. The tree of `secret` is 9, and its index has the next one.
abbrev pub store_schema : Schema
store_schema = created old_schema secret_table

-- The schema of a version.
abbrev pub schema_of : Version → Schema
schema_of One = old_schema
schema_of Two = store_schema
