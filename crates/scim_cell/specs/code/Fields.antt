-- A check of the fields of a value, one after another.
use Rattle.std.specs.Prelude.{ℕ, ◌<◌, Option, None, Some, List, [], ◌∷◌}
use Rattle.scim_schema.specs.declared.Kind.{Kind}
use Rattle.scim_schema.specs.declared.Unit.{Unit as AttributeUnit}
use Rattle.scim_cell.specs.declared.rows.Field.{Field}
use Rattle.scim_cell.specs.Place.{sub_attribute_number}
use Rattle.scim_cell.specs.Rows.{IsSoundField}

-- the rank of a sub-attribute is greater than the previous rank, if there is one
abbrev pub Rises : Option ℕ → ℕ → Type 0
Rises None n = Unit {0}
Rises (Some last) n = last < n

-- each field is valid, and the ranks of the sub-attributes are strictly ascending and greater than the given
-- rank, if there is one
abbrev pub AreRising : Kind → AttributeUnit → Option ℕ → List Field → Type 0
AreRising kind u last [] = Unit {0}
AreRising kind u last (f ∷ fs) =
    IsSoundField kind u f × Rises last (sub_attribute_number f.leaf.sub_attribute) × AreRising kind u (Some (sub_attribute_number f.leaf.sub_attribute)) fs
