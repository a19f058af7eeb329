-- The ids of the resources that can match a query, found by texts that each match has.
use Rattle.std.specs.Prelude.{◌≡◌, ℕ, Bool, true, ◌||◌, cond, List, [], ◌∷◌, ◌++◌, filter, not, All, Option, IfSome}
use Rattle.std.specs.BTreeSet.{BTreeSet, contains}
use Rattle.std.specs.Ordering.{nat_cmp, is_eq}
use Rattle.std.specs.Cmp.Lexicographic.{slice_cmp}
use Rattle.scim_schema.specs.declared.Kind.{Kind}
use Rattle.scim_schema.specs.declared.Kind.TheVariants.{User, Group}
use Rattle.scim_schema.specs.declared.Leaf.{Leaf}
use Rattle.scim_schema.specs.declared.Attribute.TheVariants.{Groups, Id}
use Rattle.scim_schema.specs.declared.SubAttribute.TheVariants.{Value}
use Rattle.scim_schema.specs.IndexedLeaves.{indexed_leaves}
use Rattle.scim_schema.specs.UniqueLeaves.{unique_leaves}
use Rattle.scim_schema.specs.Units.{leaf_at, simple}
use Rattle.scim_cell.specs.Content.{Content}
use Rattle.scim_cell.specs.Ids.{IsId}
use Rattle.scim_cell.specs.Kinds.{of_kind}
use Rattle.scim_cell.specs.Rows.{rows}
use Rattle.scim_filter_texts.specs.declared.needs.NeededText.{NeededText}
use Rattle.scim_filter_texts.specs.Needed.{has_some_text, has_text, is_at}
use Rattle.scim_value.specs.Members.{lists}
use Rattle.scim_view.specs.View.{Viewer}
use Rattle.scim_view.specs.Groups.{with_groups}
use Rattle.scim_search.specs.declared.possible_ids.IdGatherer.{IdGatherer}
use Rattle.scim_search.specs.declared.possible_ids.MemberGatherer.{MemberGatherer}

-- whether the id is in the set
abbrev pub has_id : BTreeSet (List ℕ) → List ℕ → Bool
has_id ids id = contains (slice_cmp nat_cmp) ids id

-- each id of the old set is in the new one
abbrev pub IsKept : BTreeSet (List ℕ) → BTreeSet (List ℕ) → Type 0
IsKept old new = (id : List ℕ) → IsId id → has_id old id ≡ true → has_id new id ≡ true

-- the set has the id of the resource that was found, if any
abbrev pub HasFound : BTreeSet (List ℕ) → Option Content → Type 0
HasFound ids found = IfSome found (λ c. has_id ids c.id ≡ true)

-- the visitor adds the id of the resource
abbrev pub TakesId : IdGatherer → Content → IdGatherer → Type 0
TakesId old c new = (id : List ℕ) → has_id new.ids id ≡ cond (is_eq (slice_cmp nat_cmp c.id id)) true (has_id old.ids id)

-- the visitor adds the ids of the members of the group
abbrev pub TakesMembers : MemberGatherer → Content → MemberGatherer → Type 0
TakesMembers old c new = (id : List ℕ) → IsId id → has_id new.ids id ≡ (has_id old.ids id || lists id c)

-- the leaf at which a value of `groups` has the id of a group
abbrev pub group_leaf : Leaf
group_leaf = leaf_at Groups Value

-- the leaves at which the groups of a resource have their ids: a group has no `groups`
abbrev pub group_leaves : Kind → List Leaf
group_leaves User = group_leaf ∷ []
group_leaves Group = []

-- the leaves by whose texts resources of the kind are looked up alone: `id`, the unique and the indexed leaves
abbrev pub own_leaves : Kind → List Leaf
own_leaves kind = simple Id ∷ (unique_leaves kind ++ indexed_leaves kind)

-- the leaves by whose texts resources of the kind are looked up
abbrev pub possible_leaves : Kind → List Leaf
possible_leaves kind = group_leaves kind ++ own_leaves kind

-- whether the leaf of the text is indexed for the kind
abbrev pub is_indexed : Kind → NeededText → Bool
is_indexed kind t = is_at (indexed_leaves kind) t

-- the texts at indexed leaves
abbrev pub indexed_of : Kind → List NeededText → List NeededText
indexed_of kind texts = filter (is_indexed kind) texts

-- the texts at other leaves
abbrev pub others_of : Kind → List NeededText → List NeededText
others_of kind texts = filter (λ t. not (is_indexed kind t)) texts

-- the set has the id of each resource of the kind in which a viewer, with the groups of the store, sees what
-- passes the test
abbrev pub HasAll : Kind → List Content → (Content → Bool) → BTreeSet (List ℕ) → Type 0
HasAll kind cs passes ids = (v : Viewer) → All (λ c. passes (with_groups v (of_kind Group cs) c) ≡ true → has_id ids c.id ≡ true) (of_kind kind cs)

-- the new set has the old ids, and those of the resources in which the text may be seen at the leaf
pub record Gathers (kind : Kind) (cs : List Content) (leaf : Leaf) (text : List ℕ) (old new : BTreeSet (List ℕ)) : Type 0 where
  pub kept : IsKept old new
  pub all : HasAll kind cs (λ p. has_text leaf text (rows p)) new

-- the new set has the old ids, and those of the resources in which one of the texts may be seen
pub record GathersSome (kind : Kind) (cs : List Content) (texts : List NeededText) (old new : BTreeSet (List ℕ)) : Type 0 where
  pub kept : IsKept old new
  pub all : HasAll kind cs (λ p. has_some_text texts (rows p)) new
