-- What a change that adds no right leaves of the patterns of leaves.
use Rattle.std.proofs.Common.{◌≡◌, refl, ap₂, Bool, true, false, List, [], ◌∷◌, ◌++◌, All, inl, inr}
use Rattle.std.specs.Prelude.{not, ◌&&◌, nat_eq, filter, filter_map, Option, None, Some, if◌then◌else◌}
use Rattle.std.specs.List.{list_any, list_all, cons_option}
use Rattle.std.specs.Cmp.Lexicographic.{pointwise}
use Rattle.std.proofs.lemmas.Bool.{cases_Bool, eqb-true, and_parts}
use Rattle.std.proofs.lemmas.List.Elements.{All-cons, All-nil, All-contains}
use Rattle.scim_schema.specs.declared.Kind.{Kind}
use Rattle.scim_schema.specs.declared.Op.{Op}
use Rattle.scim_schema.specs.declared.Op.TheVariants.{Modify, Delete}
use Rattle.scim_schema.specs.declared.Leaf.{Leaf}
use Rattle.scim_schema.specs.Table.{leaves, HasLeaf}
use Rattle.scim_policy.specs.declared.rules.Decision.{Decision}
use Rattle.scim_policy.specs.Access.{Access, opened, widening}
use Rattle.scim_policy.specs.Opened.{first, allows, is_same_decision, opens, opened_at, opening, opened_for_reading, IsNotOpened}

-- ---- patterns that compare equal

same_allow : (a b : Bool) → (if a then b else not b) ≡ true → a ≡ b
same_allow true true e = refl
same_allow true false e = cc
same_allow false true e = cc
same_allow false false e = refl

same_decision : (a b : Decision) → is_same_decision a b ≡ true → a ≡ b
same_decision a b e =
    let parts = and_parts (nat_eq a.rule b.rule) (if a.allow then b.allow else not b.allow) e in
    let rules : a.rule ≡ b.rule = eqb-true a.rule b.rule parts.0 in
    let allow : a.allow ≡ b.allow = same_allow a.allow b.allow parts.1 in
    λ i. record { rule = rules i; allow = allow i }

same_patterns : (ds es : List Decision) → pointwise is_same_decision ds es ≡ true → ds ≡ es
same_patterns [] [] e = refl
same_patterns [] (x ∷ es) e = cc
same_patterns (d ∷ ds) [] e = cc
same_patterns (d ∷ ds) (x ∷ es) e =
    let parts = and_parts (is_same_decision d x) (pointwise is_same_decision ds es) e in
    ap₂ ◌∷◌ (same_decision d x parts.0) (same_patterns ds es parts.1)

-- ---- a pattern whose change doesn't open reading

not_false : (b : Bool) → not b ≡ false → b ≡ true
not_false true e = refl
not_false false e = cc

not_opening : (before after : List Decision) → opens before after ≡ false → IsNotOpened before after
not_opening before after e = elim (cases_Bool (pointwise is_same_decision before after)) [
  | inl same ↦ inl (same_patterns before after same)
  | inr other ↦ elim (cases_Bool (list_any allows after)) [
    | inl some ↦ inr (inr (and_parts (list_all allows before) (list_all allows after) (not_false _ (rw (other, some) at e))))
    | inr none ↦ inr (inl none)
  ]
]

some_first : (ds : List Decision) → list_any allows ds ≡ true → first (filter allows ds) ≡ None → ⊥
some_first [] some none = cc
some_first (d ∷ ds) some none = elim (cases_Bool d.allow) [
  | inl yes_allow ↦ (let is = rw yes_allow at none in cc)
  | inr denies ↦ some_first ds (rw denies at some) (rw denies at none)
]

none_opened : (before after : List Decision) → opened_at before after ≡ None → opens before after ≡ false
none_opened before after none = elim (cases_Bool (opens before after)) [
  | inl opened ↦
      let parts = and_parts (not (pointwise is_same_decision before after)) (list_any allows after && not (list_all allows before && list_all allows after)) opened in
      absurd (some_first after (and_parts (list_any allows after) (not (list_all allows before && list_all allows after)) parts.1).0 (rw opened at none))
  | inr other ↦ other
]

-- ---- a change that adds no right

no_first : {X : Type 0} (xs ys : List X) → first (xs ++ ys) ≡ None → xs ≡ []
no_first [] ys e = refl
no_first (x ∷ xs) ys e = cc

none_mapped : {X Y : Type 0} (h : X → Option Y) (xs : List X) → filter_map h xs ≡ [] → All (λ x. h x ≡ None) xs
none_mapped h [] e = All-nil (λ x. h x ≡ None)
none_mapped {Y} h (x ∷ xs) e =
    let parts = both (h x) (filter_map h xs) e in
    All-cons (λ y. h y ≡ None) x xs parts.0 (none_mapped h xs parts.1)
  where
    both : (o : Option Y) (ys : List Y) → cons_option o ys ≡ [] → (o ≡ None) × (ys ≡ [])
    both None ys e = (refl, e)
    both (Some y) ys e = cc

no_opening : (l : Leaf) (o : Option Decision) → opening l o ≡ None → o ≡ None
no_opening l None e = refl
no_opening l (Some d) e = cc

pub not_opened : (kind : Kind) (before after : Access) → widening kind before after ≡ None → (l : Leaf) → HasLeaf kind l → IsNotOpened (before.patterns l) (after.patterns l)
unfolding widening
not_opened kind before after e l there =
    let h : Leaf → Option (Op × Leaf × Decision) = λ m. opening m (opened_at (before.patterns m) (after.patterns m)) in
    let none : opened_for_reading kind before.patterns after.patterns ≡ [] =
    no_first (opened_for_reading kind before.patterns after.patterns) (opened kind Modify before.modify after.modify ++ opened kind Delete before.delete after.delete) e in
    not_opening (before.patterns l) (after.patterns l)
    (none_opened (before.patterns l) (after.patterns l)
    (no_opening l (opened_at (before.patterns l) (after.patterns l)) (All-contains (λ m. h m ≡ None) (leaves kind) l (none_mapped h (leaves kind) none) there)))
