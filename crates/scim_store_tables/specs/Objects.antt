-- The objects of a schema that aren't of the tables, by their names.
use Rattle.std.specs.Prelude.{◌≡◌, ◌≢◌, Bool, not, ◌||◌, codes, List, [], ◌∷◌, find, Option, Some, None}
use Rattle.sqlite.specs.Schema.{Schema}
use Rattle.sqlite.specs.Table.{Table}
use Rattle.sqlite_schema.specs.Names.{same_name}
use Rattle.sqlite_schema.specs.declared.schema.Index.{Index}
use Rattle.sqlite_schema.specs.declared.schema.View.{View}
use Rattle.scim_store_tables.specs.declared.foreign_objects.ForeignObject.{ForeignObject}
use Rattle.scim_store_tables.specs.declared.foreign_objects.ForeignObject.TheVariants as object

-- Whether a table has the name of one of the six tables, ignoring the case of ASCII letters.
abbrev pub is_our_table : Table → Bool
is_our_table t = same_name t.name (codes "setting") || same_name t.name (codes "resource") || same_name t.name (codes "taken") || same_name t.name (codes "member") || same_name t.name (codes "audit") || same_name t.name (codes "secret")

-- Whether an index has the name of an index of one of the six tables, ignoring the case of ASCII letters.
abbrev pub is_our_index : Index → Bool
is_our_index i =
    same_name i.name (codes "sqlite_autoindex_setting_1") || same_name i.name (codes "sqlite_autoindex_resource_1") || same_name i.name (codes "sqlite_autoindex_taken_1")
    || same_name i.name (codes "sqlite_autoindex_member_1") || same_name i.name (codes "sqlite_autoindex_secret_1")

-- The first table that isn't one of the six.
abbrev pub foreign_table : List Table → Option Table
foreign_table = find (λ t. not (is_our_table t))

-- The first index that isn't one of the six tables'.
abbrev pub foreign_index : List Index → Option Index
foreign_index = find (λ i. not (is_our_index i))

-- The schema has no other names than the six tables and their indexes.
pub record HasOnlyOurs (schema : Schema) : Type 0 where
  pub tables : foreign_table schema.tables ≡ None
  pub indexes : foreign_index schema.indexes ≡ None
  pub views : schema.views ≡ []

-- What an entry of a schema's views stands for: a view, or an object whose SQL isn't supported.
abbrev pub IsOfView : View → ForeignObject → Type 0
IsOfView v (object.Table name) = ⊥
IsOfView v (object.Index name) = ⊥
IsOfView v (object.View name) = (v.foreign ≡ None) × (name.now ≡ v.name)
IsOfView v (object.Other name) = (v.foreign ≢ None) × (name.now ≡ v.name)

-- The schema's views begin with the object.
abbrev pub BeginsWith : List View → ForeignObject → Type 0
BeginsWith [] found = ⊥
BeginsWith (v ∷ more) found = IsOfView v found

-- The object is in the schema, and isn't one of the six tables and their indexes.
abbrev pub IsForeignIn : Schema → ForeignObject → Type 0
IsForeignIn schema (object.Table name) = (t : Table) × (foreign_table schema.tables ≡ Some t) × (name.now ≡ t.name)
IsForeignIn schema (object.Index name) = (i : Index) × (foreign_index schema.indexes ≡ Some i) × (name.now ≡ i.name)
IsForeignIn schema (object.View name) = BeginsWith schema.views (object.View name)
IsForeignIn schema (object.Other name) = BeginsWith schema.views (object.Other name)
