-- The ids and names of the resources that the reader of a users file has read.
use Rattle.std.specs.Prelude.{◌≡◌, ◌↔◌, ℕ, Bool, List, Contains, Any, IsTrue}
use Rattle.std.specs.BTreeSet.{contains}
use Rattle.std.specs.Ordering.{nat_cmp, eq_by_cmp}
use Rattle.std.specs.declared.cmp.Ordering.{Ordering}
use Rattle.std.specs.Cmp.Lexicographic.{slice_cmp}
use Rattle.scim_value.specs.declared.uniqueness.UniqueName.{UniqueName}
use Rattle.scim_value.specs.contracts.uniqueness.UniqueNameOrd.TheImpl as name_ord
use Rattle.scim_cell.specs.Content.{Content}
use Rattle.scim_value.specs.Uniqueness.{unique_names, name_of}
use Rattle.scim_json.specs.declared.users_files.Taken.{Taken}

-- the order of ids in the set
abbrev pub id_cmp : List ℕ → List ℕ → Ordering
id_cmp = slice_cmp nat_cmp

-- the order of unique names in the set
abbrev pub name_cmp : UniqueName → UniqueName → Ordering
name_cmp = (name_ord.ghosts).cmp

-- whether two ids are equal
abbrev pub is_same_id : List ℕ → List ℕ → Bool
is_same_id = eq_by_cmp id_cmp

-- whether two unique names are equal
abbrev pub is_same_unique_name : UniqueName → UniqueName → Bool
is_same_unique_name = eq_by_cmp name_cmp

-- the sets have exactly the ids and the unique names of these resources
pub record Records (taken : Taken) (cs : List Content) : Type 0 where
  pub ids : (id : List ℕ) → IsTrue (contains id_cmp taken.ids id) ↔ Any (λ c. c.id ≡ id) cs
  pub names : (n : UniqueName) → IsTrue (contains name_cmp taken.names n) ↔ Any (λ c. Contains (unique_names c) (name_of n)) cs
