-- Leaves and units. A cell holds one simple value at one leaf. A unit is a part of a resource for which
-- writing is allowed or denied as a whole.
use Rattle.std.specs.Prelude.{Bool, None, Some, ◌&&◌, List, [], ◌∷◌, map, if◌then◌else◌}
use Rattle.std.specs.List.{flat_map}
use Rattle.std.specs.Option.{option_eq}
use denote.Enum.Bare.{sameb}
use Rattle.scim_schema.specs.declared.Kind.{Kind}
use Rattle.scim_schema.specs.declared.Attribute.{Attribute}
use Rattle.scim_schema.specs.declared.SubAttribute.{SubAttribute}
use Rattle.scim_schema.specs.declared.Leaf.{Leaf}
use Rattle.scim_schema.specs.declared.Unit.{Unit as AttributeUnit}
use Rattle.scim_schema.specs.contracts.Attribute.{the_type as the_attribute}
use Rattle.scim_schema.specs.contracts.SubAttribute.{the_type as the_sub_attribute}
use Rattle.scim_schema.specs.Characteristics.{is_multi_valued}
use Rattle.scim_schema.specs.Table.{attributes, sub_attributes, leaves_with}

-- the leaf of a simple attribute
abbrev pub simple : Attribute → Leaf
simple a = record { attribute = a; sub_attribute = None }

-- the leaf of a sub-attribute of an attribute
abbrev pub leaf_at : Attribute → SubAttribute → Leaf
leaf_at a b = record { attribute = a; sub_attribute = Some b }

-- the unit of a whole attribute
abbrev pub whole : Attribute → AttributeUnit
whole a = record { attribute = a; sub_attribute = None }

-- the unit that contains a leaf: the whole attribute if it is multi-valued, otherwise the leaf alone
abbrev pub unit_of : Leaf → AttributeUnit
unit_of leaf = record { attribute = leaf.attribute; sub_attribute = if is_multi_valued leaf.attribute then None else leaf.sub_attribute }

-- whether two attributes are equal
abbrev pub is_same_attribute : Attribute → Attribute → Bool
is_same_attribute = sameb the_attribute

-- whether two leaves are equal
abbrev pub is_same_leaf : Leaf → Leaf → Bool
is_same_leaf l m = is_same_attribute l.attribute m.attribute && option_eq (sameb the_sub_attribute) l.sub_attribute m.sub_attribute

-- whether two units are equal
abbrev pub is_same_unit : AttributeUnit → AttributeUnit → Bool
is_same_unit u v = is_same_attribute u.attribute v.attribute && option_eq (sameb the_sub_attribute) u.sub_attribute v.sub_attribute

-- the units of an attribute: the whole attribute if it is multi-valued, otherwise one for each leaf
abbrev pub units_of : Attribute → List AttributeUnit
units_of a = if is_multi_valued a then whole a ∷ [] else map unit_of (leaves_with a (sub_attributes a))

-- the units of a kind, in the order of `Table.antt`
unfoldable pub units : Kind → List AttributeUnit
units kind = flat_map units_of (attributes kind)
