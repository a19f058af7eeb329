-- The leaves whose values are unique.
use Rattle.std.specs.Prelude.{Bool, List, [], ◌∷◌, filter, IsPermutation}
use denote.Enum.Bare.{sameb}
use Rattle.scim_schema.specs.declared.Kind.{Kind}
use Rattle.scim_schema.specs.declared.Kind.TheVariants.{User, Group}
use Rattle.scim_schema.specs.declared.Attribute.TheVariants.{UserName, Badge}
use Rattle.scim_schema.specs.declared.Leaf.{Leaf}
use Rattle.scim_schema.specs.declared.characteristics.Uniqueness.TheVariants.{Server}
use Rattle.scim_schema.specs.contracts.characteristics.Uniqueness.{the_type as the_uniqueness}
use Rattle.scim_schema.specs.Characteristics.{characteristics_of}
use Rattle.scim_schema.specs.Table.{leaves}
use Rattle.scim_schema.specs.Names.{attribute_name}
use Rattle.scim_schema.specs.Units.{simple}
use Rattle.scim_schema.specs.JsonKeys.{Ascends}

-- whether values of the leaf must be unique across resources (RFC 7643 section 2.2, uniqueness)
abbrev pub is_unique : Kind → Leaf → Bool
is_unique kind l = sameb the_uniqueness (characteristics_of kind l).uniqueness Server

-- the leaves of a kind whose values are unique
unfoldable pub unique_leaves : Kind → List Leaf
unique_leaves kind = filter (is_unique kind) (leaves kind)

-- the leaves of a kind whose values are unique, in byte order of the names of their attributes
unfoldable pub unique_leaves_by_name : Kind → List Leaf
unique_leaves_by_name User = simple Badge ∷ simple UserName ∷ []
unique_leaves_by_name Group = []

-- both lists of unique leaves have the same leaves
abbrev pub UniqueLeavesArePermuted : Type 0
UniqueLeavesArePermuted = (kind : Kind) → IsPermutation (unique_leaves_by_name kind) (unique_leaves kind)

-- the names of the attributes ascend in byte order, without duplicates
abbrev pub UniqueLeavesAscend : Type 0
UniqueLeavesAscend = (kind : Kind) → Ascends (λ l. attribute_name l.attribute) (unique_leaves_by_name kind)
