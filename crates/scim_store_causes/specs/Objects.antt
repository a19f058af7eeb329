-- Copies of objects of a schema that aren't of the tables.
use Rattle.std.specs.Prelude.{◌≡◌, Option, Some, None}
use Rattle.sqlite.specs.Schema.{Schema}
use Rattle.scim_store_tables.specs.declared.foreign_objects.ForeignObject.{ForeignObject}
use Rattle.scim_store_tables.specs.declared.foreign_objects.ForeignObject.TheVariants as object
use Rattle.scim_store_tables.specs.Objects.{IsForeignIn, HasOnlyOurs}
use Rattle.scim_store_causes.specs.declared.foreign_objects.OwnedObject.{OwnedObject}
use Rattle.scim_store_causes.specs.declared.foreign_objects.OwnedObject.TheVariants as own

-- The copy has the kind and the name of the object.
abbrev pub IsCopyOf : ForeignObject → OwnedObject → Type 0
IsCopyOf (object.Table name) (own.Table copy) = copy.items ≡ name.now
IsCopyOf (object.Index name) (own.Index copy) = copy.items ≡ name.now
IsCopyOf (object.View name) (own.View copy) = copy.items ≡ name.now
IsCopyOf (object.Other name) (own.Other copy) = copy.items ≡ name.now
IsCopyOf _ _ = ⊥

-- The copy is that of an object of the schema that isn't one of the six tables and their indexes.
abbrev pub IsForeignCopy : Schema → OwnedObject → Type 0
IsForeignCopy schema copy = (found : ForeignObject) × IsForeignIn schema found × IsCopyOf found copy

-- `None` if the schema has no other names than the six tables and their indexes; otherwise the copy of an object that
-- isn't one of them.
abbrev pub CopiesForeign : Schema → Option OwnedObject → Type 0
CopiesForeign schema None = HasOnlyOurs schema
CopiesForeign schema (Some copy) = IsForeignCopy schema copy
