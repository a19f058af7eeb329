-- A chain is sorted, and its cells are those of a part.
use Rattle.std.proofs.Common.{◌≡◌, ℕ, zero, suc, ◌+◌, ◌≤◌, ◌<◌, refl, sym, ◌∙◌, ap, subst, inl, inr, ◌⊎◌, arith, Bool, true, false, eqb, List, [], ◌∷◌, length, get_or}
use Rattle.std.specs.Prelude.{◌&&◌, ◌==◌, Option, None, Some, All, Any}
use Rattle.std.specs.declared.cmp.Ordering.{Ordering}
use Rattle.std.specs.declared.cmp.Ordering.TheVariants.{Less, Equal, Greater}
use Rattle.std.specs.Ordering.{nat_cmp, ordering_then, is_gt, is_lt}
use Rattle.std.specs.Cmp.{ranked, tied_itself, upto, nat_cmp_total}
use Rattle.std.proofs.lemmas.Bool.Decides.{nat_tests}
use Rattle.std.proofs.lemmas.List.{get_or_default}
use lib.Dec.{T}
use Rattle.std.specs.FinMap.{is_sorted}
use Rattle.std.specs.FinMap.Entries.{below_all}
use Rattle.std.proofs.lemmas.List.Elements.{All-nil, All-cons, All-tail, All-head, All-weaker}
pub use Rattle.scim_schema.proofs.Facts.{and_first, and_second}
use Rattle.scim_schema.specs.declared.Kind.{Kind}
use Rattle.scim_schema.specs.declared.Attribute.{Attribute}
use Rattle.scim_cell.specs.declared.places.Place.{Place}
use Rattle.scim_cell.specs.Place.{place_cmp, attribute_number, sub_attribute_number}
use Rattle.scim_cell.specs.Content.{Entry, IsOfKind, StandsInLine, ArePartCells}
use Rattle.scim_value.specs.code.Chain.{GoesOn, IsChain}
use denote.Enum.Bare.{tag_one}
use Rattle.scim_schema.specs.contracts.Attribute.{the_type as the_attribute}
use Rattle.scim_value.proofs.PlaceLemmas.{place_total}

pub true_from_T : (b : Bool) → T b → b ≡ true
true_from_T true h = refl
true_from_T false h = absurd h

pub unequal : (m n : ℕ) → eqb m n ≡ false → m ≤ n → m < n
unequal m n h l = grind arith

pub and_true : (p q : Bool) → p ≡ true → q ≡ true → p && q ≡ true
and_true p q e f = rw (e, f) refl

below_rest : (kind : Kind) (x b : Place) (es : List Entry) → place_cmp x b ≡ Less → IsChain kind (Some b) es → below_all place_cmp x es ≡ true
below_rest kind x b [] h c = refl
below_rest kind x b (e ∷ es) h c =
    let t : place_cmp x e.0 ≡ Less = place_total.trans x b e.0 h c.1.0 in
    and_true _ _ (rw t refl) (below_rest kind x e.0 es t c.2)

below_first : (kind : Kind) (b : Place) (es : List Entry) → IsChain kind (Some b) es → below_all place_cmp b es ≡ true
below_first kind b [] c = refl
below_first kind b (e ∷ es) c = let t : place_cmp b e.0 ≡ Less = c.1.0 in and_true _ _ (rw t refl) (below_rest kind b e.0 es t c.2)

pub is_sorted-chain : (kind : Kind) (last : Option Place) (es : List Entry) → IsChain kind last es → is_sorted place_cmp es ≡ true
is_sorted-chain kind last [] c = refl
is_sorted-chain kind last (e ∷ es) c = and_true _ _ (below_first kind e.0 es c.2) (is_sorted-chain kind (Some e.0) es c.2)

pub of_kind-chain : (kind : Kind) (last : Option Place) (es : List Entry) → IsChain kind last es → All (IsOfKind kind) es
of_kind-chain kind last [] c = All-nil (IsOfKind kind)
of_kind-chain kind last (e ∷ es) c = All-cons (IsOfKind kind) e es c.0 (of_kind-chain kind (Some e.0) es c.2)

-- the first is not after the second
abbrev pub NotAfter : Place → Place → Type 0
NotAfter x y = is_gt (place_cmp x y) ≡ false

pub first_le : (p q : ℕ) (r s : Ordering) → r ≡ nat_cmp p q → is_gt (ordering_then r s) ≡ false → p ≤ q
first_le p q Less s e h = let m : p < q = ranked p q Less e in omega arith
first_le p q Equal s e h = let m : p ≡ q = ranked p q Equal e in omega arith
first_le p q Greater s e h = cc

-- attributes do not fall
pub number_le : (a b : Place) → NotAfter a b → attribute_number a.attribute ≤ attribute_number b.attribute
number_le a b h = first_le (attribute_number a.attribute) (attribute_number b.attribute) (nat_cmp (attribute_number a.attribute) (attribute_number b.attribute)) _ refl h

-- nor do positions within one
pub position_le : (a b : Place) → NotAfter a b → a.attribute ≡ b.attribute → a.position ≤ b.position
position_le a b h e =
    let n : nat_cmp (attribute_number a.attribute) (attribute_number b.attribute) ≡ Equal = rw e (tied_itself nat_cmp_total (attribute_number b.attribute)) in
    let rest : is_gt (ordering_then (nat_cmp a.position b.position) (nat_cmp (sub_attribute_number a.sub_attribute) (sub_attribute_number b.sub_attribute))) ≡ false = rw n at h in
    first_le a.position b.position (nat_cmp a.position b.position) _ refl rest

pub less_not_after : (a b : Place) → place_cmp a b ≡ Less → NotAfter a b
less_not_after a b h = rw h refl

same_not_after : (a b : Place) → a ≡ b → NotAfter a b
same_not_after a b e = rw e (ap is_gt (tied_itself place_total b))

any_at : (P : Entry → Type 0) (x : Entry) (xs : List Entry) (k : ℕ) (y : Entry) → k < length (x ∷ xs) → get_or (x ∷ xs) k y ≡ y → P y → P x ⊎ Any P xs
any_at P x xs zero y h e p = inl (subst P (sym e) p)
any_at P x xs (suc k) y h e p = inr (k, y, omega arith, e, p)

any_cases : (P : Entry → Type 0) (x : Entry) (xs : List Entry) → Any P (x ∷ xs) → P x ⊎ Any P xs
any_cases P x xs h = any_at P x xs h.0 h.1 h.2 h.3 h.4

all_any : (P Q : Entry → Type 0) (xs : List Entry) → All P xs → (h : Any Q xs) → P h.1
all_any P Q xs all h = subst P h.3 (all h.0 h.1 h.2)

step_or_stay : (b p : ℕ) → b ≤ p → p ≤ b + 1 → (p ≡ b) ⊎ (p ≡ b + 1)
step_or_stay b p l u = elim (p == b) as (λ t. (p == b) ≡ t → (p ≡ b) ⊎ (p ≡ b + 1)) [
  | true ↦ λ t. inl (grind (arith, nat_tests))
  | false ↦ λ t. inr (grind (arith, nat_tests))
] refl

-- the list has a cell at the place
abbrev pub HasPlace : List Entry → Place → Type 0
HasPlace es p = Any (λ f. f.0 ≡ p) es

next_in_line : (kind : Kind) (all : List Entry) (b p : Place) → StandsInLine all b → HasPlace all b → place_cmp b p ≡ Less → (p.position ≡ 0) ⊎ GoesOn b p → StandsInLine all p
next_in_line kind all b p line here less (inl z) = inl z
next_in_line kind all b p line here less (inr g) =
    let le : b.position ≤ p.position = position_le b p (less_not_after b p less) g.1 in
    elim (step_or_stay b.position p.position le g.2) [
      | inl same ↦ elim line [
        | inl z ↦ inl (same ∙ z)
        | inr m ↦ inr (g.0, (m.1.0, m.1.1, m.1.2, m.1.3, (m.1.4.0 ∙ g.1, m.1.4.1 ∙ sym same)))
      ]
      | inr next ↦ inr (g.0, (here.0, here.1, here.2, here.3, (ap (λ (q : Place). q.attribute) here.4 ∙ g.1, ap (λ (q : Place). q.position + 1) here.4 ∙ sym next)))
    ]

in_line-from : (kind : Kind) (all : List Entry) (b : Place) (es : List Entry) → StandsInLine all b → HasPlace all b → All (λ e. HasPlace all e.0) es → IsChain kind (Some b) es → All (λ e. StandsInLine all e.0) es
in_line-from kind all b [] line here has c = All-nil (λ (e : Entry). StandsInLine all e.0)
in_line-from kind all b (e ∷ es) line here has c =
    let own : StandsInLine all e.0 = next_in_line kind all b e.0 line here c.1.0 c.1.1 in
    All-cons (λ (e : Entry). StandsInLine all e.0) e es own
    (in_line-from kind all e.0 es own (All-head (λ (e : Entry). HasPlace all e.0) e es has) (All-tail (λ (e : Entry). HasPlace all e.0) e es has) c.2)

all_have : (es : List Entry) → All (λ e. HasPlace es e.0) es
all_have es k d h = (k, get_or es k d, h, get_or_default es k (get_or es k d) d h, refl)

pub ArePartCells-chain : (kind : Kind) (es : List Entry) → IsChain kind None es → ArePartCells kind es
ArePartCells-chain kind [] c = record { of_kind = All-nil (IsOfKind kind); in_line = All-nil (λ (e : Entry). StandsInLine [] e.0) }
ArePartCells-chain kind (e ∷ es) c =
    let has = all_have (e ∷ es) in
    let H : Entry → Type 0 = λ f. HasPlace (e ∷ es) f.0 in
    record {
      of_kind = of_kind-chain kind None (e ∷ es) c;
      in_line = All-cons (λ (f : Entry). StandsInLine (e ∷ es) f.0) e es (inl c.1)
          (in_line-from kind (e ∷ es) e.0 es (inl c.1) (All-head H e es has) (All-tail H e es has) c.2);
    }

pub is_less : (o : Ordering) → is_lt o ≡ true → o ≡ Less
is_less Less e = refl
is_less Equal e = cc
is_less Greater e = cc

-- a place that is below all of a list is not after any of its places
not_after_any : (p q : Place) (es : List Entry) → below_all place_cmp p es ≡ true → HasPlace es q → NotAfter p q
not_after_any p q [] h a = absurd (omega (arith, a.2))
not_after_any p q (e ∷ es) h a = elim (any_cases (λ f. f.0 ≡ q) e es a) [
  | inl same ↦ rw (← same) (less_not_after p e.0 (is_less _ (and_first _ _ h)))
  | inr later ↦ not_after_any p q es (and_second _ _ h) later
]

-- every cell stands no later than b, or else in es
abbrev pub Covers : List Entry → Place → List Entry → Type 0
Covers all b es = All (λ f. NotAfter f.0 b ⊎ HasPlace es f.0) all

covers_next : (all : List Entry) (b : Place) (e : Entry) (es : List Entry) → place_cmp b e.0 ≡ Less → Covers all b (e ∷ es) → Covers all e.0 es
covers_next all b e es less h =
    All-weaker (λ f. NotAfter f.0 b ⊎ HasPlace (e ∷ es) f.0) (λ f. NotAfter f.0 e.0 ⊎ HasPlace es f.0) (λ f w. elim w [
      | inl n ↦ inl (upto place_total f.0 b e.0 n (less_not_after b e.0 less))
      | inr a ↦ elim (any_cases (λ g. g.0 ≡ f.0) e es a) [
        | inl same ↦ inl (same_not_after f.0 e.0 (sym same))
        | inr later ↦ inr later
      ]
    ]) all h

pub tag_between : (a b p : Place) → NotAfter a b → NotAfter b p → a.attribute ≡ p.attribute → b.attribute ≡ p.attribute
tag_between a b p l r e =
    let lower : attribute_number a.attribute ≤ attribute_number b.attribute = number_le a b l in
    let upper : attribute_number b.attribute ≤ attribute_number p.attribute = number_le b p r in
    let ends : attribute_number a.attribute ≡ attribute_number p.attribute = ap (λ (x : Attribute). attribute_number x) e in
    let same : attribute_number b.attribute ≡ attribute_number p.attribute = omega arith in
    tag_one the_attribute tt b.attribute p.attribute same

follows-from_line : (kind : Kind) (all : List Entry) (b : Place) (e : Entry) (es : List Entry) → place_cmp b e.0 ≡ Less → below_all place_cmp e.0 es ≡ true
    → Covers all b (e ∷ es) → StandsInLine all e.0 → (e.0.position ≡ 0) ⊎ GoesOn b e.0
follows-from_line kind all b e es less below covers (inl z) = inl z
follows-from_line kind all b e es less below covers (inr m) =
    let f = m.1.1 in
    let w = all_any (λ f. NotAfter f.0 b ⊎ HasPlace (e ∷ es) f.0) (λ f. (f.0.attribute ≡ e.0.attribute) × (f.0.position + 1 ≡ e.0.position)) all covers m.1 in
    let same_attribute : f.0.attribute ≡ e.0.attribute = m.1.4.0 in
    let next : f.0.position + 1 ≡ e.0.position = m.1.4.1 in
    let never : NotAfter e.0 f.0 → ⊥ = λ n. let le : e.0.position ≤ f.0.position = position_le e.0 f.0 n (sym same_attribute) in omega arith in
    elim w [
      | inl n ↦
          let after : NotAfter b e.0 = less_not_after b e.0 less in
          let own : b.attribute ≡ e.0.attribute = tag_between f.0 b e.0 n after same_attribute in
          let le : f.0.position ≤ b.position = position_le f.0 b n (same_attribute ∙ sym own) in
          inr (m.0, own, omega arith)
      | inr a ↦ elim (any_cases (λ g. g.0 ≡ f.0) e es a) [
        | inl same ↦ absurd (never (same_not_after e.0 f.0 same))
        | inr later ↦ absurd (never (not_after_any e.0 f.0 es below later))
      ]
    ]

chain_rest : (kind : Kind) (all : List Entry) (b : Place) (es : List Entry) → below_all place_cmp b es ≡ true → is_sorted place_cmp es ≡ true
    → All (IsOfKind kind) es → All (λ e. StandsInLine all e.0) es → Covers all b es → IsChain kind (Some b) es
chain_rest kind all b [] below sorted own line covers = tt
chain_rest kind all b (e ∷ es) below sorted own line covers =
    let less : place_cmp b e.0 ≡ Less = is_less _ (and_first _ _ below) in
    let later : below_all place_cmp e.0 es ≡ true = and_first _ _ sorted in (
      All-head (IsOfKind kind) e es own,
      (less, follows-from_line kind all b e es less later covers (All-head (λ (f : Entry). StandsInLine all f.0) e es line)),
      chain_rest kind all e.0 es later (and_second _ _ sorted) (All-tail (IsOfKind kind) e es own) (All-tail (λ (f : Entry). StandsInLine all f.0) e es line) (covers_next all b e es less covers),
    )

first_stands : (kind : Kind) (e : Entry) (es : List Entry) → below_all place_cmp e.0 es ≡ true → StandsInLine (e ∷ es) e.0 → e.0.position ≡ 0
first_stands kind e es below (inl z) = z
first_stands kind e es below (inr m) =
    let f = m.1.1 in
    let never : NotAfter e.0 f.0 → ⊥ = λ n. let le : e.0.position ≤ f.0.position = position_le e.0 f.0 n (sym m.1.4.0) in omega (arith, m.1.4.1) in
    elim (any_cases (λ g. g.0 ≡ f.0) e es (m.1.0, f, m.1.2, m.1.3, refl)) [
      | inl same ↦ absurd (never (same_not_after e.0 f.0 same))
      | inr later ↦ absurd (never (not_after_any e.0 f.0 es below later))
    ]

-- the check finds no fault where there is none
pub chain-ArePartCells : (kind : Kind) (es : List Entry) → is_sorted place_cmp es ≡ true → ArePartCells kind es → IsChain kind None es
chain-ArePartCells kind [] sorted h = tt
chain-ArePartCells kind (e ∷ es) sorted h =
    let below : below_all place_cmp e.0 es ≡ true = and_first _ _ sorted in
    let H : Entry → Type 0 = λ f. StandsInLine (e ∷ es) f.0 in (
      All-head (IsOfKind kind) e es h.of_kind,
      first_stands kind e es below (All-head H e es h.in_line),
      chain_rest kind (e ∷ es) e.0 es below (and_second _ _ sorted) (All-tail (IsOfKind kind) e es h.of_kind) (All-tail H e es h.in_line)
          (λ k d l. elim (any_cases (λ g. g.0 ≡ (get_or (e ∷ es) k d).0) e es (all_have (e ∷ es) k d l)) [
            | inl same ↦ inl (same_not_after _ _ (sym same))
            | inr later ↦ inr later
          ]),
    )
