-- The names that are unique among resources.
use Rattle.std.specs.Prelude.{◌≢◌, ℕ, List, [], ◌∷◌, Option, Some, Contains, string_bytes, if◌then◌else◌}
use Rattle.std.specs.List.{flat_map}
use Rattle.scim_text.specs.Names.{folded}
use Rattle.scim_schema.specs.declared.Kind.{Kind}
use Rattle.scim_schema.specs.declared.Leaf.{Leaf}
use Rattle.scim_schema.specs.Characteristics.{characteristics_of}
use Rattle.scim_schema.specs.UniqueLeaves.{unique_leaves}
use Rattle.scim_cell.specs.declared.atoms.Atom.{Atom}
use Rattle.scim_cell.specs.declared.atoms.Atom.TheVariants.{Text}
use Rattle.scim_value.specs.declared.uniqueness.UniqueName.{UniqueName}
use Rattle.scim_cell.specs.Content.{Content}
use Rattle.scim_value.specs.Resource.{first_at}

-- a value that at most one resource may have: the leaf, and the text that comparisons use
pub record Name : Type 0 where
  pub leaf : Leaf
  pub text : List ℕ

-- the leaf of a `UniqueName` and the bytes of its text
abbrev pub name_of : UniqueName → Name
name_of n = record { leaf = n.leaf; text = string_bytes n.text }

-- the text that comparisons of a name use: folded unless the leaf is caseExact (RFC 7643 section 2.2)
abbrev pub known_text : Kind → Leaf → List ℕ → List ℕ
known_text kind l t = if (characteristics_of kind l).case_exact then t else folded t

-- the name at a leaf with this atom, or no name if the atom is absent or not a text
abbrev pub name_at : Kind → Leaf → Option Atom → List Name
name_at kind l (Some (Text t)) = record { leaf = l; text = known_text kind l t } ∷ []
name_at kind l _ = []

-- the unique names of a resource, in the order of `unique_leaves`
abbrev pub unique_names : Content → List Name
unique_names c = flat_map (λ l. name_at c.kind l (first_at l c)) (unique_leaves c.kind)

-- two resources may be on the same server: their ids differ, and they share no unique name (RFC 7643
-- sections 2.2 and 3.1)
pub record AreApart (c d : Content) : Type 0 where
  pub ids : c.id ≢ d.id
  pub names : (n : Name) → Contains (unique_names c) n → Contains (unique_names d) n → ⊥
