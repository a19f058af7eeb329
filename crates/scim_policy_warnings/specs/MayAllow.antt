-- What the rules of a policy may allow: a test on rules alone, without a resource.
use Rattle.std.specs.Prelude.{Bool, not, ◌&&◌, ◌||◌, ◌==◌, List, length}
use Rattle.std.specs.List.{before_first, list_any}
use denote.Enum.Bare.{sameb}
use Rattle.scim_schema.specs.declared.Kind.{Kind}
use Rattle.scim_schema.specs.declared.Op.{Op}
use Rattle.scim_schema.specs.declared.Leaf.{Leaf}
use Rattle.scim_schema.specs.contracts.Kind.{the_type as the_kind}
use Rattle.scim_schema.specs.contracts.Op.{the_type as the_op}
use Rattle.scim_policy.specs.Rules.{Rule}
use Rattle.scim_policy.specs.Fits.{covers, covers_in_part, filtered_on, is_reading, paths_on}
use Rattle.scim_policy_warnings.specs.declared.clients.Client.{Client}
use Rattle.scim_policy_warnings.specs.declared.possibilities.Extent.{Extent}
use Rattle.scim_policy_warnings.specs.declared.possibilities.Extent.TheVariants.{EachValue, SomeValue}
use Rattle.scim_policy_warnings.specs.Clients.{is_for}

-- whether a rule is for a client, an operation and a kind
abbrev pub is_about : Client → Op → Kind → Rule → Bool
is_about client op k r = is_for client r && (list_any (sameb the_op op) r.ops && list_any (sameb the_kind k) r.kinds)

-- whether a rule covers a leaf on resources of a kind: in each value or, by a path with a value filter, in some; such
-- paths count for reading only
abbrev pub covers_leaf : Extent → Op → Kind → Leaf → Rule → Bool
covers_leaf EachValue op k l r = list_any (covers l) (paths_on k r.paths)
covers_leaf SomeValue op k l r = list_any (covers l) (paths_on k r.paths) || (is_reading op && list_any (covers_in_part l) (filtered_on k r.paths))

-- whether a rule allows a client an operation at a leaf, on all resources of the kind or on those that its target
-- matches
abbrev pub allows : Extent → Client → Op → Kind → Leaf → Rule → Bool
allows extent client op k l r = r.allow && (is_about client op k r && covers_leaf extent op k l r)

-- whether a rule denies a client an operation at a leaf, on all resources of the kind
abbrev pub denies : Extent → Client → Op → Kind → Leaf → Rule → Bool
denies extent client op k l r = not r.allow && ((length r.targets == 0) && (is_about client op k r && covers_leaf extent op k l r))

-- the other extent: a leaf isn't allowed in each value if it is denied in some, and the other way round
abbrev pub other : Extent → Extent
other EachValue = SomeValue
other SomeValue = EachValue

-- whether a policy may allow a client an operation at a leaf of resources of a kind: a rule allows it, before any rule
-- denies it on all these resources
unfoldable pub may_allow : Extent → List Rule → Client → Op → Kind → Leaf → Bool
may_allow extent policy client op k l = list_any (allows extent client op k l) (before_first (denies (other extent) client op k l) policy)
