-- The results of reads of resources.
use Rattle.std.specs.Prelude.{◌≡◌, ℕ, List, Option, IsTrue, find, filter}
use Rattle.std.specs.List.{FoldsTo}
use Rattle.sqlite.specs.State.{State, IsUnchanged}
use Rattle.scim_schema.specs.declared.Kind.{Kind}
use Rattle.scim_cell.specs.Content.{Content}
use Rattle.scim_cell.specs.Kinds.{of_kind}
use Rattle.scim_value.specs.Uniqueness.{Name}
use Rattle.scim_shelf.specs.Stores.{Store, is_at, has_name, is_group_with, of_id}
use Rattle.scim_store_rows.specs.Stands.{StandsFor}

-- If the connection is open, its tables hold the store.
abbrev pub StandsIn : List ℕ → State → Store → Type 0
StandsIn base s store = IsTrue s.is_open → StandsFor base s.now store

-- The result is `has`, and nothing is changed.
pub record IsFound {T : Type 0} (has : T) (old new : State) (found : T) : Type 0 where
  pub is : found ≡ has
  pub unchanged : IsUnchanged old new

-- The result is the resource of the kind with the id, if any, and nothing is changed.
abbrev pub FindsById : Kind → List ℕ → Store → State → State → Option Content → Type 0
FindsById kind id store = IsFound (find (is_at kind id) store.resources)

-- The result is the resource that has the unique name, if any, and nothing is changed.
abbrev pub FindsOwner : Name → Store → State → State → Option Content → Type 0
FindsOwner name store = IsFound (find (has_name name) store.resources)

-- The results are the groups that list the value among their members, in order of id, and nothing is changed.
abbrev pub FindsGroups : List ℕ → Store → State → State → List Content → Type 0
FindsGroups value store = IsFound (filter (is_group_with value) store.resources)

-- A visitor has taken the resources of the kind, in order of id, and nothing is changed.
pub record Shows {V : Type 0} (Takes : V → Content → V → Type 0) (kind : Kind) (store : Store) (old new : State) (before after : V) : Type 0 where
  pub took : FoldsTo Takes before (of_kind kind store.resources) after
  pub unchanged : IsUnchanged old new

-- The result is the user or group with the id, if any, and nothing is changed.
abbrev pub FindsOld : List ℕ → Store → State → State → Option Content → Type 0
FindsOld id store = IsFound (of_id id store.resources)
