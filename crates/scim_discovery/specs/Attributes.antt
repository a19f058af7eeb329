-- Attributes and sub-attributes as schemas describe them (RFC 7643 section 7).
use Rattle.std.specs.Prelude.{ℕ, List, codes, map, Option, None, Some}
use Rattle.serde_json.specs.Data.{Data, boolean, string, array, object, Members, no_members, member}
use Rattle.serde_json.specs.View.{items_of}
use Rattle.scim_schema.specs.declared.Kind.{Kind}
use Rattle.scim_schema.specs.declared.Attribute.{Attribute}
use Rattle.scim_schema.specs.declared.SubAttribute.{SubAttribute}
use Rattle.scim_schema.specs.declared.characteristics.Characteristics.{Characteristics}
use Rattle.scim_schema.specs.declared.characteristics.AttributeType.{AttributeType}
use Rattle.scim_schema.specs.declared.characteristics.AttributeType.TheVariants.{Complex}
use Rattle.scim_schema.specs.Names.{attribute_name, sub_attribute_name}
use Rattle.scim_schema.specs.CharacteristicNames.{type_name, mutability_name, returned_name, uniqueness_name}
use Rattle.scim_schema.specs.Table.{sub_attributes}
use Rattle.scim_schema.specs.Characteristics.{attribute_characteristics, sub_attribute_characteristics}
use Rattle.scim_discovery.specs.Members.{with_member}

-- the JSON members that describe an attribute or sub-attribute: its name, its characteristics and, if given,
-- its sub-attributes
abbrev pub members_for : List ℕ → Characteristics → Option Data → Members
members_for name c sub_attributes =
    member (codes "caseExact") (boolean c.case_exact)
    (member (codes "multiValued") (boolean c.multi_valued)
    (member (codes "mutability") (string (mutability_name c.mutability))
    (member (codes "name") (string name)
    (member (codes "required") (boolean c.required)
    (member (codes "returned") (string (returned_name c.returned))
    (with_member (codes "subAttributes") sub_attributes
    (member (codes "type") (string (type_name c.attribute_type))
    (member (codes "uniqueness") (string (uniqueness_name c.uniqueness)) no_members))))))))

-- the description of a sub-attribute
abbrev pub sub_attribute_data : Attribute → SubAttribute → Data
sub_attribute_data a b = object (members_for (sub_attribute_name b) (sub_attribute_characteristics a b) None)

-- the descriptions of an attribute's sub-attributes, which only a complex attribute has (RFC 7643 section
-- 2.3.8)
abbrev pub sub_attributes_data : Attribute → AttributeType → Option Data
sub_attributes_data a Complex = Some (array (items_of (map (sub_attribute_data a) (sub_attributes a))))
sub_attributes_data a _ = None

-- the description of an attribute with these characteristics
abbrev pub attribute_data_with : Attribute → Characteristics → Data
attribute_data_with a c = object (members_for (attribute_name a) c (sub_attributes_data a c.attribute_type))

-- the description of an attribute of a kind
abbrev pub attribute_data : Kind → Attribute → Data
attribute_data kind a = attribute_data_with a (attribute_characteristics kind a)
