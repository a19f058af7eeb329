-- The unique names of a resource: each stands at a simple leaf that is unique, and leaves differ as their names do.
use Rattle.std.proofs.Common.{◌≡◌, refl, sym, ◌∙◌, ap, subst, Bool, true, List, [], ◌∷◌}
use Rattle.std.specs.Prelude.{All, Option, None, Some}
use Rattle.std.specs.List.{flat_map, list_any}
use Rattle.std.specs.Ordering.{is_eq, nat_cmp}
use Rattle.std.specs.Cmp.Lexicographic.{slice_cmp}
use Rattle.std.specs.Str.{bytes_eq}
use Rattle.std.proofs.lemmas.List.Elements.{All-nil, All-cons, All-head, All-tail, All-append, All-weaker}
use Rattle.std.proofs.lemmas.Map.Text.{is_eq-slice_cmp}
use Rattle.std.proofs.lemmas.Slice.Eq.{bytes_eq-Decides}
use Rattle.scim_schema.specs.declared.Kind.{Kind}
use Rattle.scim_schema.specs.declared.Kind.TheVariants.{User, Group}
use Rattle.scim_schema.specs.declared.Leaf.{Leaf}
use Rattle.scim_schema.specs.declared.Attribute.TheVariants.{UserName, Badge}
use Rattle.scim_schema.specs.Names.{attribute_name}
use Rattle.scim_schema.specs.Units.{simple, is_same_leaf}
use Rattle.scim_schema.specs.UniqueLeaves.{unique_leaves}
use Rattle.scim_schema.proofs.Facts.{is_same_leaf-Decides}
use Rattle.scim_cell.specs.declared.atoms.Atom.{Atom}
use Rattle.scim_cell.specs.declared.atoms.Atom.TheVariants.{Text, Truth, Moment}
use Rattle.scim_cell.specs.Content.{Content}
use Rattle.scim_value.specs.Resource.{first_at}
use Rattle.scim_value.specs.Uniqueness.{Name, name_at, unique_names}
use Rattle.scim_shelf.proofs.Facts.{by_bool}
use Rattle.scim_store_rows.proofs.BackLemmas.{name_one}

-- whether values of users at the leaf must be unique
abbrev pub is_unique_leaf : Leaf → Bool
is_unique_leaf l = list_any (λ m. is_same_leaf m l) (unique_leaves User)

-- the leaf has no sub-attribute, and its values are unique
abbrev pub IsNameLeaf : Leaf → Type 0
IsNameLeaf l = (l ≡ simple l.attribute) × (is_unique_leaf l ≡ true)

name_leaves : (kind : Kind) → All IsNameLeaf (unique_leaves kind)
unfolding unique_leaves
name_leaves User = All-cons IsNameLeaf (simple UserName) (simple Badge ∷ []) (refl, refl) (All-cons IsNameLeaf (simple Badge) [] (refl, refl) (All-nil _))
name_leaves Group = All-nil _

name_is_at : (kind : Kind) (l : Leaf) (o : Option Atom) → IsNameLeaf l → All (λ (n : Name). IsNameLeaf n.leaf) (name_at kind l o)
name_is_at kind l None h = All-nil _
name_is_at kind l (Some (Text t)) h = All-cons (λ (n : Name). IsNameLeaf n.leaf) _ [] h (All-nil _)
name_is_at kind l (Some (Truth b)) h = All-nil _
name_is_at kind l (Some (Moment m)) h = All-nil _

names_at : (c : Content) (ls : List Leaf) → All IsNameLeaf ls → All (λ (n : Name). IsNameLeaf n.leaf) (flat_map (λ l. name_at c.kind l (first_at l c)) ls)
names_at c [] all = All-nil _
names_at c (l ∷ ls) all = All-append (λ (n : Name). IsNameLeaf n.leaf) _ _ (name_is_at c.kind l (first_at l c) (All-head IsNameLeaf l ls all)) (names_at c ls (All-tail IsNameLeaf l ls all))

-- each unique name stands at a simple leaf whose values are unique
pub name_leaves_of : (c : Content) → All (λ (n : Name). IsNameLeaf n.leaf) (unique_names c)
name_leaves_of c = names_at c (unique_leaves c.kind) (name_leaves c.kind)

-- each unique name stands at a leaf without a sub-attribute
pub simple_names : (c : Content) → All (λ (n : Name). n.leaf ≡ simple n.leaf.attribute) (unique_names c)
simple_names c = All-weaker (λ (n : Name). IsNameLeaf n.leaf) (λ (n : Name). n.leaf ≡ simple n.leaf.attribute) (λ n h. h.0) (unique_names c) (name_leaves_of c)

-- a leaf whose values are unique has no sub-attribute
pub simple_leaf : (l : Leaf) → is_unique_leaf l ≡ true → l ≡ simple l.attribute
simple_leaf l yes' = one_of (unique_leaves User) (name_leaves User) yes'
  where
    one_of : (ms : List Leaf) → All IsNameLeaf ms → list_any (λ m. is_same_leaf m l) ms ≡ true → l ≡ simple l.attribute
    one_of [] all is = absurd cc
    one_of (m ∷ ms) all is =
        by_bool (is_same_leaf m l)
        (λ t. subst (λ x. x ≡ simple x.attribute) ((is_same_leaf-Decides m l).0 t) (All-head IsNameLeaf m ms all).0)
        (λ f. one_of ms (All-tail IsNameLeaf m ms all) (rw f at is))

-- leaves without sub-attributes are the same just where their attributes have one name
pub leaf_texts : (l m : Leaf) → l ≡ simple l.attribute → m ≡ simple m.attribute → is_eq (slice_cmp nat_cmp (attribute_name l.attribute) (attribute_name m.attribute)) ≡ is_same_leaf l m
leaf_texts l m one two =
    is_eq-slice_cmp (attribute_name l.attribute) (attribute_name m.attribute) ∙
    by_bool (is_same_leaf l m)
    (λ t. (bytes_eq-Decides (attribute_name l.attribute) (attribute_name m.attribute)).1 (ap (λ (x : Leaf). attribute_name x.attribute) ((is_same_leaf-Decides l m).0 t)) ∙ sym t)
    (λ f.
    by_bool (bytes_eq (attribute_name l.attribute) (attribute_name m.attribute))
    (λ t.
    (let same : l.attribute ≡ m.attribute = name_one l.attribute m.attribute ((bytes_eq-Decides (attribute_name l.attribute) (attribute_name m.attribute)).0 t) in
    t ∙ sym ((is_same_leaf-Decides l m).1 (one ∙ ap simple same ∙ sym two))))
    (λ g. g ∙ sym f))
