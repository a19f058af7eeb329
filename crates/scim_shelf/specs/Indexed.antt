-- How the code looks up the resources of a store by id, by unique name and by member.
use Rattle.std.specs.Prelude.{ℕ, Bool, false, cond, List, [], ◌∷◌, ◌++◌, find, All, AllPairs, Option, None, Some}
use Rattle.std.specs.List.Sorted.{IsPermutation}
use Rattle.std.specs.Ordering.{nat_cmp, is_eq}
use Rattle.std.specs.Cmp.Lexicographic.{slice_cmp}
use Rattle.scim_schema.specs.declared.Kind.{Kind}
use Rattle.scim_cell.specs.Content.{Content}
use Rattle.scim_cell.specs.Kinds.{is_of}
use Rattle.scim_value.specs.Uniqueness.{Name, unique_names, AreApart}
use Rattle.scim_shelf.specs.Stores.{has_name}

-- Whether a resource has the id.
abbrev pub has_id : List ℕ → Content → Bool
has_id id c = is_eq (slice_cmp nat_cmp id c.id)

-- A resource paired with its id, as an entry of a map by id.
abbrev pub keyed : Content → List ℕ × Content
keyed c = (c.id, c)

-- The unique names of the resource that a look-up found, if any.
abbrev pub names_of : Option Content → List Name
names_of None = []
names_of (Some c) = unique_names c

-- Whether a look-up found a resource that has the name.
abbrev pub has_in : Name → Option Content → Bool
has_in n None = false
has_in n (Some c) = has_name n c

-- The resource that a look-up found, if it is of the kind.
abbrev pub only_of : Kind → Option Content → Option Content
only_of kind None = None
only_of kind (Some c) = cond (is_of kind c) (Some c) None

-- The list `cs`, with the resource that a look-up found, if any, added at the front.
abbrev pub before : Option Content → List Content → List Content
before None cs = cs
before (Some c) cs = c ∷ cs

-- The resources with these ids, in the order in which the ids are listed.
abbrev pub picked : List Content → List (List ℕ) → List Content
picked cs [] = []
picked cs (id ∷ ids) = before (find (has_id id) cs) (picked cs ids)

-- `all` consists of the resources `left`, which must still be stored, and the resources `cs`, which are
-- stored already. No resource of `left` shares an id or a unique name with another resource of `left` or
-- `cs`.
pub record AreLeft (all left cs : List Content) : Type 0 where
  pub members : IsPermutation all (left ++ cs)
  pub apart : AllPairs AreApart left
  pub across : All (λ d. All (AreApart d) cs) left
