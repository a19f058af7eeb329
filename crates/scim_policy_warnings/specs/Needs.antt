-- The decisions of a policy that an operation needs, and those that are never allowed.
use Rattle.std.specs.Prelude.{Bool, not, List, [], ◌∷◌, find, Option, if◌then◌else◌}
use Rattle.std.specs.List.{flat_map}
use Rattle.scim_schema.specs.declared.Attribute.TheVariants.{Id}
use Rattle.scim_schema.specs.declared.Kind.{Kind}
use Rattle.scim_schema.specs.declared.Op.{Op}
use Rattle.scim_schema.specs.declared.Op.TheVariants.{Read, Create, Modify, Delete}
use Rattle.scim_schema.specs.declared.Leaf.{Leaf}
use Rattle.scim_schema.specs.declared.Unit.{Unit as AttributeUnit}
use Rattle.scim_schema.specs.Mutability.{is_write_only}
use Rattle.scim_schema.specs.Units.{simple}
use Rattle.scim_policy.specs.Access.{leaves_of}
use Rattle.scim_policy.specs.Rules.{Rule}
use Rattle.scim_policy_warnings.specs.declared.clients.Client.{Client}
use Rattle.scim_policy_warnings.specs.declared.needs.Need.{Need}
use Rattle.scim_policy_warnings.specs.declared.possibilities.Extent.TheVariants.{EachValue}
use Rattle.scim_policy_warnings.specs.MayAllow.{may_allow}

-- an operation that must be allowed at a leaf
abbrev pub need : Op → Leaf → Need
need op l = record { op = op; leaf = l }

-- what an operation on any resource needs: a client changes or deletes only what it sees, which is a resource whose
-- `id` it may read
abbrev pub needed_at_all : Op → List Need
needed_at_all Read = need Read (simple Id) ∷ []
needed_at_all Create = need Create (simple Id) ∷ []
needed_at_all Modify = need Read (simple Id) ∷ []
needed_at_all Delete = need Read (simple Id) ∷ need Delete (simple Id) ∷ []

-- what writing a unit needs at a leaf of it: a create needs the create, a change of the resource needs to modify the
-- leaf and, unless it is writeOnly, to read it
abbrev pub needed_at : Op → Kind → Leaf → List Need
needed_at Create k l = need Create l ∷ []
needed_at Modify k l = need Modify l ∷ (if is_write_only k l then [] else need Read l ∷ [])
needed_at _ k l = []

-- what writing a unit needs beside that: it is written as a whole
abbrev pub needed_to_write : Op → Kind → AttributeUnit → List Need
needed_to_write op k u = flat_map (needed_at op k) (leaves_of k u)

-- whether a policy never allows a client what is needed, in each value of the leaf
abbrev pub is_missing : List Rule → Client → Kind → Need → Bool
is_missing policy client k n = not (may_allow EachValue policy client n.op k n.leaf)

-- the first of some needs that a policy never allows
abbrev pub missing : List Rule → Client → Kind → List Need → Option Need
missing policy client k needs = find (is_missing policy client k) needs
