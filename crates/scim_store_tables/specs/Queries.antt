-- The queries on one table, as syntax trees.
use Rattle.std.specs.Prelude.{◌≡◌, ℕ, List, [], ◌∷◌, None, false, pos, negsuc, ⊤}
use Rattle.sqlite.specs.declared.types.Value.TheVariants.{Int}
use Rattle.sqlite.specs.Collation.TheVariants.{Binary}
use Rattle.sqlite_value.specs.declared.keys.Key.{Key}
use Rattle.sqlite_sql.specs.declared.ops.BinaryOp.TheVariants as by
use Rattle.sqlite_sql.specs.declared.ops.CompareOp.TheVariants.{Eq}
use Rattle.sqlite.specs.Query.{Query, inner, end}
use Rattle.sqlite.specs.Term.{Term, lit, col, op2}
use Rattle.scim_store_tables.specs.declared.queries.Table.{Table}
use Rattle.scim_store_tables.specs.declared.queries.Table.TheVariants.{Setting, Resource, Taken, Member, Audit, Secret}
use Rattle.scim_store_tables.specs.declared.versions.Version.{Version}
use Rattle.scim_store_tables.specs.declared.versions.Version.TheVariants.{Two}

-- The query for the columns `shown` of the rows of a tree that pass the tests, sorted by `order`.
abbrev pub one_table : ℕ → List Term → List Term → List (Term × Key) → Query
one_table tree tests shown order = record {
  from = inner tree end;
  filter = tests;
  group = None;
  project = shown;
  distinct = false;
  collations = [];
  order = order;
  limit = lit (Int (negsuc 0));
  offset = lit (Int (pos 0));
}

-- The test that a column equals a parameter.
abbrev pub is_column : ℕ → ℕ → Term
is_column place parameter = op2 (by.Compare Eq Binary) (col 1 place) (col 0 parameter)

-- Ascending order, by bytes.
abbrev pub up : Key
up = record { collation = Binary; descending = false }

-- The tree that holds the rows of a table.
abbrev pub tree_of : Table → ℕ
tree_of Setting = 0
tree_of Resource = 2
tree_of Taken = 4
tree_of Member = 6
tree_of Audit = 8
tree_of Secret = 9

-- The version has this table. Only `secret` isn't in version 1.
abbrev pub HasTable : Version → Table → Type 0
HasTable version Secret = version ≡ Two
HasTable version Setting = ⊤
HasTable version Resource = ⊤
HasTable version Taken = ⊤
HasTable version Member = ⊤
HasTable version Audit = ⊤

-- The query for all rows of a table, sorted.
abbrev pub rows_query : Table → Query
rows_query Setting = one_table 0 [] (col 1 1 ∷ col 1 2 ∷ []) []
rows_query Resource = one_table 2 [] (col 1 1 ∷ col 1 2 ∷ col 1 3 ∷ []) ((col 1 1, up) ∷ (col 1 2, up) ∷ [])
rows_query Taken = one_table 4 [] (col 1 3 ∷ col 1 1 ∷ col 1 2 ∷ []) ((col 1 3, up) ∷ (col 1 1, up) ∷ (col 1 2, up) ∷ [])
rows_query Member = one_table 6 [] (col 1 2 ∷ col 1 1 ∷ []) ((col 1 2, up) ∷ (col 1 1, up) ∷ [])
rows_query Audit = one_table 8 [] (col 1 0 ∷ col 1 2 ∷ col 1 3 ∷ col 1 4 ∷ col 1 5 ∷ col 1 6 ∷ col 1 7 ∷ col 1 8 ∷ col 1 9 ∷ col 1 10 ∷ []) ((col 1 0, up) ∷ [])
rows_query Secret = one_table 9 [] (col 1 1 ∷ col 1 2 ∷ []) ((col 1 1, up) ∷ (col 1 2, up) ∷ [])

-- The query for the keys of a table, sorted.
abbrev pub keys_query : Table → Query
keys_query table = one_table (tree_of table) [] (col 1 0 ∷ []) ((col 1 0, up) ∷ [])
