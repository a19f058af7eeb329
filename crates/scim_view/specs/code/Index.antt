-- The code's index of the groups that a client sees, by the ids of their members.
use Rattle.std.specs.Prelude.{◌≡◌, ℕ, ◌+◌, ◌-◌, Bool, false, ◌&&◌, List, [], ◌∷◌, ◌++◌, length, map, filter, nat_eq, Option, None, Some, if◌then◌else◌}
use Rattle.std.specs.Global.{Vec}
use Rattle.std.specs.List.{slice_get}
use Rattle.std.specs.Option.{option_eq}
use Rattle.std.specs.BTreeMap.{get}
use Rattle.std.specs.Ordering.{nat_cmp}
use Rattle.std.specs.Cmp.Lexicographic.{slice_cmp}
use Rattle.scim_schema.specs.declared.Leaf.{Leaf}
use Rattle.scim_schema.specs.declared.Attribute.TheVariants.{Members}
use Rattle.scim_schema.specs.declared.SubAttribute.TheVariants.{Value}
use Rattle.scim_schema.specs.Units.{leaf_at}
use Rattle.scim_cell.specs.Equality.{is_same_id}
use Rattle.scim_cell.specs.Content.{Content}
use Rattle.scim_cell.specs.Ids.{IsId}
use Rattle.scim_cell.specs.Rows.{Row}
use Rattle.scim_policy.specs.declared.rules.Decision.{Decision}
use Rattle.scim_view.specs.declared.computed_groups.SeenGroup.{SeenGroup}
use Rattle.scim_view.specs.declared.group_index.GroupIndex.{GroupIndex}
use Rattle.scim_value.specs.Members.{lists}
use Rattle.scim_view.specs.Groups.{and_those}
use Rattle.scim_view.specs.code.Memberships.{kept_of, names_id}

-- whether an id was found and is equal to `id`
abbrev pub is_found : List ℕ → Option (List ℕ) → Bool
is_found id None = false
is_found id (Some found) = is_same_id found id

-- whether the `value` of a member is the text of the id, and the decisions on reading let it be read
abbrev pub names_shown : (Row → Leaf → Decision) → List ℕ → Row → Bool
names_shown decision id m = names_id id m && (decision m (leaf_at Members Value)).allow

-- whether the position is the last of the list
abbrev pub ends_in : ℕ → List ℕ → Bool
ends_in p ps = option_eq nat_eq (slice_get ps (length ps - 1)) (Some p)

-- the positions with this one appended, unless it is already the last
abbrev pub noted : ℕ → List ℕ → List ℕ
noted p ps = if ends_in p ps then ps else ps ++ p ∷ []

-- the elements of a list at these positions; positions beyond its end are skipped
abbrev pub at_positions : {X : Type 0} → List X → List ℕ → List X
at_positions xs [] = []
at_positions xs (p ∷ ps) = and_those (slice_get xs p) (at_positions xs ps)

-- the positions in an entry of the index; none if there is no entry
abbrev pub positions_in : Option (Vec ℕ) → List ℕ
positions_in None = []
positions_in (Some ps) = ps.items

-- the positions that the index has for an id
abbrev pub positions_of : GroupIndex → List ℕ → List ℕ
positions_of index id = positions_in (get (slice_cmp nat_cmp) index.by_member id)

-- the groups that the index has for an id
abbrev pub groups_of : GroupIndex → List ℕ → List SeenGroup
groups_of index id = at_positions index.groups.items (positions_of index id)

-- for each id, the index has the groups that list it, in their order
abbrev pub Indexes : List Content → GroupIndex → Type 0
Indexes gs index = (id : List ℕ) → IsId id → groups_of index id ≡ map kept_of (filter (lists id) gs)

-- the positions of the groups that list an id, counted from n
abbrev pub positions_from : ℕ → List ℕ → List Content → List ℕ
positions_from n id [] = []
positions_from n id (g ∷ gs) = if lists id g then n ∷ positions_from (n + 1) id gs else positions_from (n + 1) id gs

-- the index keeps each of these groups, and for each id the positions of the groups that list it
pub record IsMadeOf (gs : List Content) (index : GroupIndex) : Type 0 where
  pub groups : index.groups.items ≡ map kept_of gs
  pub positions : (id : List ℕ) → IsId id → positions_of index id ≡ positions_from 0 id gs
