-- The places of cells, and the order of places and units.
use Rattle.std.specs.Prelude.{ℕ, ◌+◌, Option, None, Some, List, [], ◌∷◌}
use Rattle.std.specs.declared.cmp.Ordering.{Ordering}
use Rattle.std.specs.Ordering.{nat_cmp, on, then_cmp}
use denote.Enum.Declared.{tag_of}
use Rattle.scim_schema.specs.declared.Attribute.{Attribute}
use Rattle.scim_schema.specs.declared.Attribute.TheVariants.{Addresses, Members}
use Rattle.scim_schema.specs.declared.SubAttribute.{SubAttribute}
use Rattle.scim_schema.specs.declared.SubAttribute.TheVariants.{Formatted, Value, Reference, Display, TypeName, Primary, StreetAddress, Locality, Region, PostalCode, Country}
use Rattle.scim_schema.specs.declared.Leaf.{Leaf}
use Rattle.scim_schema.specs.declared.Unit.{Unit as AttributeUnit}
use Rattle.scim_schema.specs.contracts.Attribute.{the_type as the_attribute}
use Rattle.scim_schema.specs.contracts.SubAttribute.{the_type as the_sub_attribute}
use Rattle.scim_schema.specs.Table.{sub_attributes}
use Rattle.scim_cell.specs.declared.places.Place.{Place}

-- the index of an attribute in the list of all attributes
abbrev pub attribute_number : Attribute → ℕ
attribute_number a = tag_of the_attribute a

-- the rank of a sub-attribute: None comes first, then the sub-attributes in the order of their list
abbrev pub sub_attribute_number : Option SubAttribute → ℕ
sub_attribute_number None = 0
sub_attribute_number (Some b) = tag_of the_sub_attribute b + 1

-- compares places by attribute, then by position, then by sub-attribute
abbrev pub place_cmp : Place → Place → Ordering
place_cmp =
    then_cmp (on (λ (p : Place). attribute_number p.attribute) nat_cmp)
    (then_cmp (on (λ (p : Place). p.position) nat_cmp) (on (λ (p : Place). sub_attribute_number p.sub_attribute) nat_cmp))

-- compares units by attribute, then by sub-attribute
abbrev pub unit_cmp : AttributeUnit → AttributeUnit → Ordering
unit_cmp = then_cmp (on (λ (u : AttributeUnit). attribute_number u.attribute) nat_cmp) (on (λ (u : AttributeUnit). sub_attribute_number u.sub_attribute) nat_cmp)

-- the leaf of a cell at a place
abbrev pub leaf_of : Place → Leaf
leaf_of p = record { attribute = p.attribute; sub_attribute = p.sub_attribute }

-- the place of a cell, by its leaf and position
abbrev pub place_at : Leaf → ℕ → Place
place_at l k = record { attribute = l.attribute; position = k; sub_attribute = l.sub_attribute }

-- the sub-attributes of an attribute in order of place; for `addresses` and `members` this order differs from
-- the order of `sub_attributes`
unfoldable pub sub_attributes_by_place : Attribute → List SubAttribute
sub_attributes_by_place Addresses = Formatted ∷ TypeName ∷ Primary ∷ StreetAddress ∷ Locality ∷ Region ∷ PostalCode ∷ Country ∷ []
sub_attributes_by_place Members = Value ∷ Reference ∷ Display ∷ TypeName ∷ []
sub_attributes_by_place a = sub_attributes a
