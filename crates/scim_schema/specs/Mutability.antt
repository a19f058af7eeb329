-- The mutability of leaves and units: who may read and write them, and whether they are stored (RFC 7643
-- section 2.2).
use Rattle.std.specs.Prelude.{Bool}
use denote.Enum.Bare.{sameb}
use Rattle.scim_schema.specs.declared.Kind.{Kind}
use Rattle.scim_schema.specs.declared.Leaf.{Leaf}
use Rattle.scim_schema.specs.declared.Unit.{Unit as AttributeUnit}
use Rattle.scim_schema.specs.declared.characteristics.Mutability.{Mutability}
use Rattle.scim_schema.specs.declared.characteristics.Mutability.TheVariants.{ReadOnly, WriteOnly}
use Rattle.scim_schema.specs.contracts.characteristics.Mutability.{the_type as the_mutability}
use Rattle.scim_schema.specs.declared.Attribute.TheVariants.{Password}
use Rattle.scim_schema.specs.Characteristics.{characteristics_at, characteristics_of}
use Rattle.scim_schema.specs.Units.{simple, is_same_leaf}

-- whether a leaf is read-only: no client may write it; without a sub-attribute, the answer is for the whole
-- attribute
abbrev pub is_read_only : Kind → Leaf → Bool
is_read_only kind l = sameb the_mutability (characteristics_of kind l).mutability ReadOnly

-- whether a leaf is write-only: no client may read it
abbrev pub is_write_only : Kind → Leaf → Bool
is_write_only kind l = sameb the_mutability (characteristics_of kind l).mutability WriteOnly

-- whether a leaf is dropped: a body may give it, and it is neither stored nor returned (RFC 7643 section 4.1.1,
-- password)
abbrev pub is_dropped : Leaf → Bool
is_dropped l = is_same_leaf l (simple Password)

-- the mutability of a unit's sub-attribute, or of its attribute if the unit has no sub-attribute
abbrev pub mutability_of : Kind → AttributeUnit → Mutability
mutability_of kind u = (characteristics_at kind u.attribute u.sub_attribute).mutability

-- whether a unit is read-only: no client may write it
abbrev pub is_fixed : Kind → AttributeUnit → Bool
is_fixed kind u = sameb the_mutability (mutability_of kind u) ReadOnly

-- whether a unit is write-only: no client may read it
abbrev pub is_secret : Kind → AttributeUnit → Bool
is_secret kind u = sameb the_mutability (mutability_of kind u) WriteOnly
