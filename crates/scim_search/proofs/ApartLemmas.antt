-- Resources that are apart share no id and no unique name.
use Rattle.std.proofs.Common.{◌≡◌, sym, ◌∙◌, ℕ, true, false, List, inl, inr}
use Rattle.std.specs.Cmp.Lexicographic.{bytes_decides}
use Rattle.std.proofs.lemmas.Bool.{cases_Bool}
use Rattle.std.proofs.lemmas.Map.Views.{Contains-from_any}
use Rattle.std.proofs.lemmas.Slice.Eq.{bytes_eq-Decides}
use Rattle.scim_schema.specs.declared.Kind.{Kind}
use Rattle.scim_schema.proofs.Facts.{and_first, and_second, leaf_one}
use Rattle.scim_cell.specs.Content.{Content}
use Rattle.scim_cell.specs.Equality.{is_same_id}
use Rattle.scim_cell.specs.Kinds.{is_of}
use Rattle.scim_value.specs.Uniqueness.{Name, unique_names, AreApart}
use Rattle.scim_shelf.specs.Stores.{is_at, is_same_name, has_name}

same_name : (n m : Name) → is_same_name n m ≡ true → n ≡ m
same_name n m e =
    let leaf : n.leaf ≡ m.leaf = leaf_one n.leaf m.leaf (and_first _ _ e) in
    let text : n.text ≡ m.text = (bytes_decides n.text m.text).0 (and_second _ _ e) in
    λ i. record { leaf = leaf i; text = text i }

pub not_both : (name : Name) (c d : Content) → AreApart c d → has_name name c ≡ true → has_name name d ≡ true → ⊥
not_both name c d apart has also =
    apart.names name (Contains-from_any same_name name (unique_names c) has) (Contains-from_any same_name name (unique_names d) also)

-- the id of the resource of a kind and an id
id_at : (kind : Kind) (id : List ℕ) (c : Content) → is_at kind id c ≡ true → id ≡ c.id
id_at kind id c at = (bytes_eq-Decides id c.id).0 (and_second (is_of kind c) (is_same_id id c.id) at)

-- of two resources that are apart one at most has an id
pub none_at : (kind : Kind) (id : List ℕ) (c d : Content) → AreApart c d → is_at kind id c ≡ true → is_at kind id d ≡ false
none_at kind id c d apart here = elim (cases_Bool (is_at kind id d)) [
  | inr no' ↦ no'
  | inl yes' ↦ absurd (apart.ids (sym (id_at kind id c here) ∙ id_at kind id d yes'))
]
