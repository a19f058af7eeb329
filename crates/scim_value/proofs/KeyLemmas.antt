-- Lists made key by key, and the tables of keys.
use Rattle.std.proofs.Common.{◌≡◌, ℕ, zero, suc, ◌<◌, refl, sym, ◌∙◌, ap, subst, Bool, true, false, ◌&&◌, ltb, ltb-true, arith, List, [], ◌∷◌, ◌++◌, append_assoc, map, inl, inr, ◌⊎◌, length, get_or}
use Rattle.std.specs.Prelude.{Some, not, ◌||◌}
use Rattle.std.specs.List.{flat_map}
use Rattle.std.proofs.lemmas.Bool.{cases_Bool}
use Rattle.std.proofs.lemmas.List.Folds.{flat_map-map}
use Rattle.scim_schema.specs.declared.Kind.{Kind}
use Rattle.scim_schema.specs.declared.Kind.TheVariants.{User, Group}
use Rattle.scim_schema.specs.declared.Attribute.{Attribute}
use Rattle.scim_schema.specs.declared.Attribute.TheVariants.{Addresses, Members}
use Rattle.scim_schema.specs.declared.SubAttribute.{SubAttribute}
use Rattle.scim_schema.specs.declared.Leaf.{Leaf}
use Rattle.scim_schema.specs.Table.{attributes, sub_attributes, leaves_with, leaves, HasLeaf}
use Rattle.scim_schema.specs.Characteristics.{is_multi_valued}
use Rattle.scim_schema.specs.Units.{leaf_at, is_same_leaf}
use Rattle.scim_schema.proofs.Facts.{leaf_one}
use Rattle.scim_cell.specs.Place.{attribute_number, sub_attribute_number}
use Rattle.scim_cell.specs.Place.{sub_attributes_by_place}
use Rattle.scim_value.proofs.ChainLemmas.{and_first, and_second}

-- the key is one of these
abbrev pub In : {X : Type 0} → X → List X → Type 0
In x [] = ⊥
In x (y ∷ ys) = (y ≡ x) ⊎ In x ys

in_at : {X : Type 0} (xs : List X) (k : ℕ) (x d : X) → k < length xs → get_or xs k d ≡ x → In x xs
in_at [] k x d l e = absurd (omega arith)
in_at (y ∷ ys) zero x d l e = inl e
in_at (y ∷ ys) (suc k) x d l e = inr (in_at ys k x d (omega arith) e)

-- a key of two lists is of the one or the other
in_append : {X : Type 0} (xs ys : List X) (x : X) → In x (xs ++ ys) → In x xs ⊎ In x ys
in_append [] ys x i = inr i
in_append (y ∷ xs) ys x (inl e) = inl (inl e)
in_append (y ∷ xs) ys x (inr i) = elim (in_append xs ys x i) [ inl j ↦ inl (inr j) | inr j ↦ inr j ]

-- keys that all have a number above this one, and keys of which each has a number above those before it
abbrev pub above : {X : Type 0} → (X → ℕ) → ℕ → List X → Bool
above num n [] = true
above num n (y ∷ ys) = ltb n (num y) && above num n ys

abbrev pub ascends : {X : Type 0} → (X → ℕ) → List X → Bool
ascends num [] = true
ascends num (y ∷ ys) = above num (num y) ys && ascends num ys

-- a key among those above a number has a higher one
above_in : {X : Type 0} (num : X → ℕ) (n : ℕ) (ys : List X) (x : X) → above num n ys ≡ true → In x ys → n < num x
above_in num n [] x a i = absurd i
above_in num n (y ∷ ys) x a (inl e) = subst (λ z. n < num z) e (ltb-true _ _ (and_first _ _ a))
above_in num n (y ∷ ys) x a (inr i) = above_in num n ys x (and_second _ _ a) i

-- two functions with the same lists make the same list
pub flat_map_same : {X A : Type 0} (f g : X → List A) (ys : List X) → ((y : X) → In y ys → f y ≡ g y) → flat_map f ys ≡ flat_map g ys
flat_map_same f g [] h = refl
flat_map_same f g (y ∷ ys) h = (λ i. h y (inl refl) i ++ flat_map_same f g ys (λ z j. h z (inr j)) i)

-- and one with none makes none
pub flat_map_none : {X A : Type 0} (f : X → List A) (ys : List X) → ((y : X) → In y ys → f y ≡ []) → flat_map f ys ≡ []
flat_map_none f [] h = refl
flat_map_none f (y ∷ ys) h = (λ i. h y (inl refl) i ++ flat_map_none f ys (λ z j. h z (inr j)) i)

-- what one key has more comes first where the keys before it have nothing
pub flat_map_insert : {X A : Type 0} (num : X → ℕ) (x : X) (more : List A) (f g : X → List A) (ys : List X) → ascends num ys ≡ true → In x ys
    → ((y : X) → In y ys → num y < num x → (f y ≡ []) × (g y ≡ [])) → f x ≡ more ++ g x → ((y : X) → In y ys → num x < num y → f y ≡ g y)
    → flat_map f ys ≡ more ++ flat_map g ys
flat_map_insert num x more f g [] a i low here high = absurd i
flat_map_insert num x more f g (y ∷ ys) a (inl e) low here high =
    let first : f y ≡ more ++ g y = subst (λ z. f z ≡ more ++ g z) (sym e) here in
    let rest : flat_map f ys ≡ flat_map g ys = flat_map_same f g ys (λ z j. high z (inr j) (subst (λ w. num w < num z) e (above_in num (num y) ys z (and_first _ _ a) j))) in
    (λ i. first i ++ rest i) ∙ append_assoc more (g y) (flat_map g ys)
flat_map_insert num x more f g (y ∷ ys) a (inr i) low here high =
    let none = low y (inl refl) (above_in num (num y) ys x (and_first _ _ a) i) in
    let ih : flat_map f ys ≡ more ++ flat_map g ys = flat_map_insert num x more f g ys (and_second _ _ a) i (λ z j. low z (inr j)) here (λ z j. high z (inr j)) in
    (λ i. none.0 i ++ flat_map f ys) ∙ ih ∙ (λ i. more ++ (sym none.1 i ++ flat_map g ys))

-- the number of a leaf among those of its attribute
abbrev pub leaf_number : Leaf → ℕ
leaf_number l = sub_attribute_number l.sub_attribute

-- the leaves of an attribute in order of place
abbrev pub leaves_by_place : Attribute → List Leaf
leaves_by_place a = leaves_with a (sub_attributes_by_place a)

-- the tables ascend
pub attributes_ascend : (kind : Kind) → ascends attribute_number (attributes kind) ≡ true
attributes_ascend User = refl
attributes_ascend Group = refl

pub leaves_ascend : (a : Attribute) → ascends leaf_number (leaves_by_place a) ≡ true
unfolding sub_attributes_by_place
leaves_ascend Addresses = refl
leaves_ascend Members = refl
leaves_ascend _ = refl

-- whether a leaf is among some, and whether some are
abbrev among : Leaf → List Leaf → Bool
among l [] = false
among l (m ∷ ms) = is_same_leaf m l || among l ms

abbrev all_among : List Leaf → List Leaf → Bool
all_among [] ms = true
all_among (l ∷ ls) ms = among l ms && all_among ls ms

-- the leaves of the table are among those in order of place
all_placed : (a : Attribute) → all_among (leaves_with a (sub_attributes a)) (leaves_by_place a) ≡ true
unfolding sub_attributes_by_place
all_placed Addresses = refl
all_placed Members = refl
all_placed _ = refl

in_among : (l : Leaf) (ms : List Leaf) → among l ms ≡ true → In l ms
in_among l [] h = cc
in_among l (m ∷ ms) h = elim (cases_Bool (is_same_leaf m l)) [
  | inl t ↦ inl (leaf_one m l t)
  | inr n ↦ inr (in_among l ms (rw n at h))
]

in_all : (ls ms : List Leaf) (l : Leaf) → all_among ls ms ≡ true → In l ls → In l ms
in_all [] ms l h i = absurd i
in_all (k ∷ ls) ms l h (inl e) = subst (λ z. In z ms) e (in_among k ms (and_first _ _ h))
in_all (k ∷ ls) ms l h (inr i) = in_all ls ms l (and_second _ _ h) i

in_map : (a : Attribute) (bs : List SubAttribute) (l : Leaf) → In l (map (λ b. record { attribute = a; sub_attribute = Some b }) bs) → l.attribute ≡ a
in_map a [] l i = absurd i
in_map a (b ∷ bs) l (inl e) = ap (λ (m : Leaf). m.attribute) (sym e)
in_map a (b ∷ bs) l (inr i) = in_map a bs l i

-- leaves of an attribute are of it
pub in_leaves : (a : Attribute) (bs : List SubAttribute) (l : Leaf) → In l (leaves_with a bs) → l.attribute ≡ a
in_leaves a [] l (inl e) = ap (λ (m : Leaf). m.attribute) (sym e)
in_leaves a [] l (inr i) = absurd i
in_leaves a (b ∷ bs) l i = in_map a (b ∷ bs) l i

-- a leaf of some attributes is of one of them, and listed there
in_attributes : (some : List Attribute) (l : Leaf) → In l (flat_map (λ a. leaves_with a (sub_attributes a)) some) → In l.attribute some × In l (leaves_by_place l.attribute)
in_attributes [] l i = absurd i
in_attributes (a ∷ some) l i = elim (in_append (leaves_with a (sub_attributes a)) (flat_map (λ a. leaves_with a (sub_attributes a)) some) l i) [
  | inl j ↦
      let e : a ≡ l.attribute = sym (in_leaves a (sub_attributes a) l j) in
      (inl e, subst (λ b. In l (leaves_by_place b)) e (in_all (leaves_with a (sub_attributes a)) (leaves_by_place a) l (all_placed a) j))
  | inr j ↦ let rest = in_attributes some l j in (inr rest.0, rest.1)
]

-- a leaf of a kind is listed
pub in_kind : (kind : Kind) (l : Leaf) → HasLeaf kind l → In l.attribute (attributes kind) × In l (leaves_by_place l.attribute)
in_kind kind l h = in_attributes (attributes kind) l (in_at (leaves kind) h.0 l l h.1 h.2)

-- a multi-valued attribute has sub-attributes, which are its leaves
abbrev has_some : List SubAttribute → Bool
has_some [] = false
has_some (b ∷ bs) = true

many_have : (a : Attribute) → not (is_multi_valued a) || has_some (sub_attributes_by_place a) ≡ true
unfolding sub_attributes_by_place
many_have Addresses = refl
many_have Members = refl
many_have _ = refl

by_leaf : {A : Type 0} (f : Leaf → List A) (a : Attribute) (bs : List SubAttribute) → has_some bs ≡ true → flat_map (λ b. f (leaf_at a b)) bs ≡ flat_map f (leaves_with a bs)
by_leaf f a [] h = cc
by_leaf f a (b ∷ bs) h = sym (flat_map-map f (leaf_at a) (b ∷ bs))

pub flat_map_leaves : {A : Type 0} (f : Leaf → List A) (a : Attribute) → is_multi_valued a ≡ true → flat_map (λ b. f (leaf_at a b)) (sub_attributes_by_place a) ≡ flat_map f (leaves_by_place a)
flat_map_leaves f a m = by_leaf f a (sub_attributes_by_place a) (rw m at (many_have a))
