-- The index of resources by unique name, as the code stores it.
use Rattle.std.specs.Prelude.{◌≡◌, ℕ, Bool, true, List, Option, None}
use Rattle.std.specs.List.{list_any}
use Rattle.std.specs.BTreeMap.{get}
use Rattle.scim_value.specs.declared.uniqueness.UniqueName.{UniqueName}
use Rattle.scim_value.specs.contracts.uniqueness.UniqueNamePartialEq.TheImpl as name_eq
use Rattle.scim_value.specs.contracts.uniqueness.UniqueNameOrd.TheImpl as name_ord
use Rattle.scim_shelf.specs.declared.owners.Owners.{Owners}

-- Whether the code treats two unique names as equal.
abbrev pub is_alike : UniqueName → UniqueName → Bool
is_alike = (name_eq.ghosts).eq

-- Whether a name is in the list.
abbrev pub is_among : UniqueName → List UniqueName → Bool
is_among q names = list_any (λ n. is_alike n q) names

-- The id of the resource that has a name, if any.
abbrev pub owner : Owners → UniqueName → Option (List ℕ)
owner owners q = get (name_ord.ghosts).cmp owners.by_name q

-- No resource has any of these names.
abbrev pub AreUnowned : Owners → List UniqueName → Type 0
AreUnowned owners names = (q : UniqueName) → is_among q names ≡ true → owner owners q ≡ None

-- Each name has the same owner in both indexes.
abbrev pub HasSameOwners : Owners → Owners → Type 0
HasSameOwners old new = (q : UniqueName) → owner new q ≡ owner old q
