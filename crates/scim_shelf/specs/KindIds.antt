-- The ids of each kind, as the code stores them.
use Rattle.std.specs.Prelude.{◌≡◌, ℕ, Bool, ◌&&◌, cond, List}
use Rattle.std.specs.List.{list_any}
use Rattle.std.specs.Ordering.{nat_cmp}
use Rattle.std.specs.Cmp.Lexicographic.{slice_cmp}
use Rattle.std.specs.BTreeMap.{is_at}
use Rattle.std.specs.BTreeSet.{insert_key}
use Rattle.std.specs.Set.{remove_key}
use denote.Enum.Bare.{sameb}
use Rattle.scim_schema.specs.declared.Kind.{Kind}
use Rattle.scim_schema.specs.declared.Kind.TheVariants.{User, Group}
use Rattle.scim_schema.specs.contracts.Kind.{the_type as the_kind}
use Rattle.scim_shelf.specs.declared.kind_ids.KindIds.{KindIds}

-- The ids of a kind, in order.
abbrev pub ids : KindIds → Kind → List (List ℕ)
ids kinds User = kinds.users.keys
ids kinds Group = kinds.groups.keys

-- Whether an id is among those of a kind.
abbrev pub has_id : KindIds → Kind → List ℕ → Bool
has_id kinds kind id = list_any (is_at (slice_cmp nat_cmp id)) (ids kinds kind)

-- Both have the same ids of each kind.
abbrev pub HasSameIds : KindIds → KindIds → Type 0
HasSameIds old new = (k : Kind) → ids new k ≡ ids old k

-- The id is among those of its kind, and all else is as it was.
abbrev pub IsInserted : Kind → List ℕ → KindIds → KindIds → Type 0
IsInserted kind id old new = (k : Kind) → ids new k ≡ cond (sameb the_kind kind k) (insert_key (slice_cmp nat_cmp) (ids old k) id) (ids old k)

-- The id, if `gone` holds, isn't among those of its kind, and all else is as it was.
abbrev pub IsRemovedIf : Bool → Kind → List ℕ → KindIds → KindIds → Type 0
IsRemovedIf gone kind id old new = (k : Kind) → ids new k ≡ cond (gone && sameb the_kind kind k) (remove_key (is_at (slice_cmp nat_cmp id)) (ids old k)) (ids old k)

-- The id isn't among those of any kind, and all else is as it was.
abbrev pub IsRemoved : List ℕ → KindIds → KindIds → Type 0
IsRemoved id old new = (k : Kind) → ids new k ≡ remove_key (is_at (slice_cmp nat_cmp id)) (ids old k)
