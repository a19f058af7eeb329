-- Resources: parts that obey RFC 7643 sections 2.2 to 2.5, 3.1, 4.1 and 4.2, within this server's limits.
use Rattle.std.specs.Prelude.{◌≡◌, ◌≢◌, ℕ, ◌≤◌, Bool, false, List, [], ◌++◌, length, codes, Option, Some, IsSome, All}
use Rattle.std.specs.List.{count_by}
use Rattle.std.specs.FinMap.{get}
use Rattle.scim_schema.specs.declared.limits.TheConstants.{LONGEST_VALUE, MOST_VALUES}
use Rattle.scim_schema.specs.declared.Kind.{Kind}
use Rattle.scim_schema.specs.declared.Kind.TheVariants.{User, Group}
use Rattle.scim_schema.specs.declared.Leaf.{Leaf}
use Rattle.scim_schema.specs.declared.Attribute.TheVariants.{Id, UserName, DisplayName, Groups, Members, Meta}
use Rattle.scim_schema.specs.declared.SubAttribute.TheVariants.{Value, ResourceType, Created, LastModified, Location}
use Rattle.scim_schema.specs.Mutability.{is_dropped}
use Rattle.scim_schema.specs.Names.{kind_name, endpoint}
use Rattle.scim_schema.specs.Table.{attributes}
use Rattle.scim_schema.specs.Units.{simple, leaf_at, whole}
use Rattle.scim_cell.specs.Ids.{IsId, id_text}
use Rattle.scim_cell.specs.declared.atoms.Atom.{Atom}
use Rattle.scim_cell.specs.declared.atoms.Atom.TheVariants.{Text}
use Rattle.scim_cell.specs.declared.rows.Field.{Field}
use Rattle.scim_cell.specs.Place.{place_at}
use Rattle.scim_cell.specs.Content.{Content, IsPart}
use Rattle.scim_cell.specs.Rows.{Row, rows, values, atom_in, is_primary}

-- the atom at the first position of a leaf, or None
abbrev pub first_at : Leaf → Content → Option Atom
first_at l c = get c.cells (place_at l 0)

-- the id is valid, and the attribute `id` is its text (RFC 7643 section 3.1)
abbrev pub IsIdentified : Content → Type 0
IsIdentified c = IsId c.id × (first_at (simple Id) c ≡ Some (Text (id_text c.id)))

-- `meta.resourceType` is the kind's name, and `meta.created` and `meta.lastModified` exist (RFC 7643 section
-- 3.1)
abbrev pub HasMeta : Content → Type 0
HasMeta c =
    (first_at (leaf_at Meta ResourceType) c ≡ Some (Text (kind_name c.kind)))
    × IsSome (first_at (leaf_at Meta Created) c) × IsSome (first_at (leaf_at Meta LastModified) c)

-- the URL of the resource of a kind and an id below a base (RFC 7644 section 3.2)
abbrev pub location : List ℕ → Kind → List ℕ → List ℕ
location base kind id = base ++ (endpoint kind ++ (codes "/" ++ id_text id))

-- `meta.location` is the URL of the resource below this base (RFC 7643 section 3.1)
abbrev pub HasBase : List ℕ → Content → Type 0
HasBase base c = first_at (leaf_at Meta Location) c ≡ Some (Text (location base c.kind c.id))

-- the option contains a text that isn't empty
abbrev pub IsFilled : Option Atom → Type 0
IsFilled (Some (Text t)) = t ≢ []
IsFilled _ = ⊥

-- the part has the name that the kind requires: for a user, a `userName` that isn't empty; for a group, a
-- `displayName`
abbrev pub IsNamedAs : Kind → Content → Type 0
IsNamedAs User c = IsFilled (first_at (simple UserName) c)
IsNamedAs Group c = IsSome (first_at (simple DisplayName) c)

-- a user has a `userName` that isn't empty (RFC 7643 section 4.1.1), and a group has a `displayName` (section
-- 4.2)
abbrev pub IsNamed : Content → Type 0
IsNamed c = IsNamedAs c.kind c

-- each member has a `value` (RFC 7643 section 4.2)
abbrev pub MembersHaveValues : List Row → Type 0
MembersHaveValues rs = All (λ r. IsSome (atom_in (leaf_at Members Value) r.fields)) (values (whole Members) rs)

-- each attribute of the kind has at most one value whose `primary` is true (RFC 7643 section 2.4)
abbrev pub HasAtMostOnePrimary : Kind → List Row → Type 0
HasAtMostOnePrimary kind rs = All (λ a. count_by is_primary (values (whole a) rs) ≤ 1) (attributes kind)

-- no multi-valued attribute of the kind has more than 10,000 values
abbrev pub HasFewValues : Kind → List Row → Type 0
HasFewValues kind rs = All (λ a. length (values (whole a) rs) ≤ MOST_VALUES) (attributes kind)

-- a text has at most 65,536 bytes; other atoms always pass
abbrev pub IsShort : Atom → Type 0
IsShort (Text t) = length t ≤ LONGEST_VALUE
IsShort _ = Unit {0}

-- a resource may have the field: it isn't in `groups`, which the server computes, and isn't dropped, as a
-- `password` is (RFC 7643 sections 4.1.1 and 4.1.2), and a text has at most 65,536 bytes except at
-- `meta.location`
pub record MayBeKept (kind : Kind) (f : Field) : Type 0 where
  pub own : f.leaf.attribute ≢ Groups
  pub stored : is_dropped f.leaf ≡ false
  pub short : f.leaf ≢ leaf_at Meta Location → IsShort f.atom

-- a part is a complete resource
pub record IsResource (c : Content) : Type 0 where
  pub part : IsPart c
  pub identified : IsIdentified c
  pub has_meta : HasMeta c
  pub located : (base : List ℕ) × HasBase base c
  pub named : IsNamed c
  pub members_have_values : MembersHaveValues (rows c)
  pub one_primary : HasAtMostOnePrimary c.kind (rows c)
  pub few_values : HasFewValues c.kind (rows c)
  pub may_be_kept : All (λ r. All (MayBeKept c.kind) r.fields) (rows c)
