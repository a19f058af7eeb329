-- When a position is loose: the step didn't choose it, and its value is primary all the same.
use Rattle.std.proofs.Common.{◌≡◌, ◌≤◌, ◌<◌, ◌+◌, zero, suc, Bool, true, false, ◌&&◌, inl, inr, ◌⊎◌, List, [], ◌∷◌, ◌++◌, refl, ap, sym, ◌∙◌, subst, arith, cond}
use Rattle.std.specs.Prelude.{not, map, filter, Option, None, Some, All, AllPairs, if◌then◌else◌}
use Rattle.std.specs.List.{list_any, count_by}
use Rattle.std.specs.Option.{option_eq}
use Rattle.std.specs.Ordering.{is_lt, is_gt}
use Rattle.std.specs.Cmp.{IsTotalOrder, on_total, then_total, nat_cmp_total, tied_itself}
use Rattle.std.proofs.Math.Bool.{and-false}
use Rattle.std.proofs.lemmas.Bool.{cases_Bool, not-true}
use Rattle.std.proofs.lemmas.List.Elements.{All-nil, All-cons, All-head, All-tail, All-weaker}
use Rattle.std.proofs.lemmas.List.Folds.{list_any-append}
use Rattle.std.proofs.lemmas.List.Filters.{sum_by-filter_both}
use Rattle.std.proofs.lemmas.List.Sums.{sum_by-cons, sum_by-append, sum_by-le, sum_by-le-sum_by}
use Rattle.scim_schema.specs.declared.Attribute.{Attribute}
use Rattle.scim_schema.specs.declared.Leaf.{Leaf}
use Rattle.scim_schema.specs.declared.SubAttribute.{SubAttribute}
use Rattle.scim_schema.specs.declared.SubAttribute.TheVariants.{Primary}
use Rattle.scim_schema.specs.Units.{leaf_at, is_same_leaf}
use Rattle.scim_schema.proofs.Facts.{and_first, and_second, leaf_one, leaf_same}
use Rattle.scim_cell.specs.declared.places.Place.{Place}
use Rattle.scim_cell.specs.declared.atoms.Atom.{Atom}
use Rattle.scim_cell.specs.declared.rows.Field.{Field}
use Rattle.scim_cell.specs.Atoms.{is_same_atom, is_same_atom-Decides}
use Rattle.scim_cell.specs.Equality.{is_same_row, is_same_row-Decides}
use Rattle.scim_cell.specs.Place.{place_cmp, place_at, attribute_number, sub_attribute_number}
use Rattle.scim_cell.specs.Rows.{Row, atom_in, is_truth, is_primary}
use Rattle.scim_cell.specs.SameValues.{is_members, member_value, is_same_value, with_value, with_values}
use Rattle.scim_filter_grammar.specs.Tree.{Tree}
use Rattle.scim_filter.specs.Truth.{truth_in_value}
use Rattle.scim_patch_values.specs.declared.positions.Position.{Position}
use Rattle.scim_patch_values.specs.Fields.{field_cmp, put_field, over, row_without, not_primary, demoted}
use Rattle.scim_patch_values.specs.Matches.{kept, given_primary, marked, made, set_over, set_at_match, replaced_at_match, cleared_at_match}

-- ---- positions

-- a position is loose if it isn't chosen, and its value is primary all the same
abbrev pub is_loose : Position → Bool
is_loose p = not p.chosen && is_primary p.value

-- ---- counts

-- as a number, a test is at most one that follows from it
at_most : (b c : Bool) → (b ≡ true → c ≡ true) → cond b 1 0 ≤ cond c 1 0
at_most true c h = rw (h refl) (omega arith)
at_most false true h = omega arith
at_most false false h = omega arith

-- where a test holds only of what is made of elements that pass another, it counts no more
pub count_map : {A B : Type 0} (p : B → Bool) (q : A → Bool) (f : A → B) (h : (x : A) → p (f x) ≡ true → q x ≡ true) (xs : List A) → count_by p (map f xs) ≤ count_by q xs
count_map p q f h [] = omega arith
count_map p q f h (x ∷ xs) =
    omega (arith, sum_by-cons (λ y. cond (p y) 1 0) (f x) (map f xs), sum_by-cons (λ y. cond (q y) 1 0) x xs, at_most (p (f x)) (q x) (h x), count_map p q f h xs)

-- no more elements pass a test than one that follows from it
count_less : {A : Type 0} (p q : A → Bool) (h : (x : A) → p x ≡ true → q x ≡ true) (xs : List A) → count_by p xs ≤ count_by q xs
count_less p q h xs = sum_by-le-sum_by (λ x. cond (p x) 1 0) (λ x. cond (q x) 1 0) xs (λ x. at_most (p x) (q x) (h x))

-- of what a filter keeps no more pass a test than of all
pub count_filter : {A : Type 0} (p q : A → Bool) (xs : List A) → count_by q (filter p xs) ≤ count_by q xs
count_filter p q xs = omega (arith, sum_by-filter_both p (λ x. not (p x)) (λ x. refl) (λ x. cond (q x) 1 0) xs)

-- a test that no element passes counts none
pub count_none : {A : Type 0} (p : A → Bool) (xs : List A) → All (λ x. p x ≡ false) xs → count_by p xs ≤ 0
count_none p xs h = omega (arith, sum_by-le (λ x. cond (p x) 1 0) 0 xs (All-weaker (λ x. p x ≡ false) (λ x. cond (p x) 1 0 ≤ 0) (λ x n. rw n (omega arith)) xs h))

-- ---- fields, and whether one says that a value is primary

-- places make a total order
places_total : IsTotalOrder place_cmp
places_total =
    then_total (on_total (λ (p : Place). attribute_number p.attribute) nat_cmp_total)
    (then_total (on_total (λ (p : Place). p.position) nat_cmp_total) (on_total (λ (p : Place). sub_attribute_number p.sub_attribute) nat_cmp_total))

-- whether fields say of a leaf that it is true
abbrev says : Leaf → List Field → Bool
says l fs = is_truth (atom_in l fs)

-- where the leaf isn't kept, the fields that are kept have no atom of it
none_kept : (keep : Leaf → Bool) (l : Leaf) (fs : List Field) → keep l ≡ false → atom_in l (filter (λ (f : Field). keep f.leaf) fs) ≡ None
none_kept keep l [] n = refl
none_kept keep l (f ∷ fs) n = elim (cases_Bool (keep f.leaf)) [
  | inl t ↦ elim (cases_Bool (is_same_leaf f.leaf l)) [
    | inl same ↦ (let e : keep f.leaf ≡ keep l = ap keep (leaf_one f.leaf l same) in cc)
    | inr other ↦ rw (t, other) (none_kept keep l fs n)
  ]
  | inr m ↦ rw m (none_kept keep l fs n)
]

-- what fields that are kept by their leaves say, all fields say
says_kept : (keep : Leaf → Bool) (l : Leaf) (fs : List Field) → says l (filter (λ (f : Field). keep f.leaf) fs) ≡ true → says l fs ≡ true
says_kept keep l [] h = h
says_kept keep l (f ∷ fs) h = elim (cases_Bool (keep f.leaf)) [
  | inl t ↦ elim (cases_Bool (is_same_leaf f.leaf l)) [
    | inl same ↦ rw same (rw (t, same) at h)
    | inr other ↦ rw other (says_kept keep l fs (rw (t, other) at h))
  ]
  | inr m ↦ elim (cases_Bool (is_same_leaf f.leaf l)) [
    | inl same ↦
        let e : keep f.leaf ≡ keep l = ap keep (leaf_one f.leaf l same) in
        let none : says l (filter (λ (g : Field). keep g.leaf) fs) ≡ false = ap is_truth (none_kept keep l fs (sym e ∙ m)) in
        let some : says l (filter (λ (g : Field). keep g.leaf) fs) ≡ true = rw m at h in cc
    | inr other ↦ rw other (says_kept keep l fs (rw m at h))
  ]
]

-- what two lists say in a row, one of them says
says_append : (l : Leaf) (fs gs : List Field) → says l (fs ++ gs) ≡ true → (says l fs ≡ true) ⊎ (says l gs ≡ true)
says_append l [] gs h = inr h
says_append l (f ∷ fs) gs h = elim (cases_Bool (is_same_leaf f.leaf l)) [
  | inl same ↦ inl (rw same (rw same at h))
  | inr other ↦ elim (says_append l fs gs (rw other at h)) [ inl first ↦ inl (rw other first) | inr second ↦ inr second ]
]

-- a field of the leaf that is put in says what it is
says_put : (g : Field) (l : Leaf) (fs : List Field) → is_same_leaf g.leaf l ≡ true → says l (put_field g fs) ≡ true → is_truth (Some g.atom) ≡ true
says_put g l fs same h =
    let keep : Leaf → Bool = λ m. is_lt (place_cmp (place_at m 0) (place_at g.leaf 0)) in
    let low : keep l ≡ false = subst (λ m. is_lt (place_cmp (place_at l 0) (place_at m 0)) ≡ false) (sym (leaf_one g.leaf l same)) (ap is_lt (tied_itself places_total (place_at l 0))) in
    let none : says l (filter (λ (f : Field). keep f.leaf) fs) ≡ false = ap is_truth (none_kept keep l fs low) in
    elim (says_append l (filter (λ (f : Field). keep f.leaf) fs) (g ∷ filter (λ (f : Field). is_gt (field_cmp f g)) fs) h) [
      | inl first ↦ cc
      | inr second ↦ rw same at second
    ]

-- and what the fields say then of another leaf, they said before
says_other : (g : Field) (l : Leaf) (fs : List Field) → is_same_leaf g.leaf l ≡ false → says l (put_field g fs) ≡ true → says l fs ≡ true
says_other g l fs other h =
    let lows : Leaf → Bool = λ m. is_lt (place_cmp (place_at m 0) (place_at g.leaf 0)) in
    let highs : Leaf → Bool = λ m. is_gt (place_cmp (place_at m 0) (place_at g.leaf 0)) in
    elim (says_append l (filter (λ (f : Field). lows f.leaf) fs) (g ∷ filter (λ (f : Field). highs f.leaf) fs) h) [
      | inl first ↦ says_kept lows l fs first
      | inr second ↦ says_kept highs l fs (rw other at second)
    ]

-- the second field stands behind the first
abbrev pub Rises : Field → Field → Type 0
Rises f g = sub_attribute_number f.leaf.sub_attribute < sub_attribute_number g.leaf.sub_attribute

-- behind a field of the leaf no other is of it
none_behind : (g : Field) (l : Leaf) (fs : List Field) → is_same_leaf g.leaf l ≡ true → All (Rises g) fs → atom_in l fs ≡ None
none_behind g l [] same h = refl
none_behind g l (f ∷ fs) same h = elim (cases_Bool (is_same_leaf f.leaf l)) [
  | inl again ↦
      let one : g.leaf ≡ f.leaf = leaf_one g.leaf l same ∙ sym (leaf_one f.leaf l again) in
      let tied = ap (λ (m : Leaf). sub_attribute_number m.sub_attribute) one in
      let rises = All-head (Rises g) f fs h in absurd (omega (arith, tied, rises))
  | inr other ↦ rw other (none_behind g l fs same (All-tail (Rises g) f fs h))
]

-- where the given fields don't say of a leaf that it is true, fields say it with them over theirs only if they said it before
says_over : (l : Leaf) (given fs : List Field) → AllPairs Rises given → says l given ≡ false → says l (over given fs) ≡ true → says l fs ≡ true
says_over l [] fs order n h = h
says_over l (g ∷ given) fs order n h =
    let first : All (Rises g) given = λ k d b. order zero (suc k) d (omega arith) (omega arith) in
    let later : AllPairs Rises given = λ i j d b c. order (suc i) (suc j) d (omega arith) (omega arith) in
    elim (cases_Bool (is_same_leaf g.leaf l)) [
      | inl same ↦
          let none : says l given ≡ false = ap is_truth (none_behind g l given same first) in
          let truth = says_put g l fs same (says_over l given (put_field g fs) later none h) in
          let untruth : is_truth (Some g.atom) ≡ false = rw same at n in cc
      | inr other ↦ says_other g l fs other (says_over l given (put_field g fs) later (rw other at n) h)
    ]

-- ---- single values

-- a demoted value isn't primary
pub demoted_is_not : (r : Row) → is_primary (demoted r) ≡ false
demoted_is_not r = go (is_primary r) refl
  where
    go : (b : Bool) → is_primary r ≡ b → is_primary (if b then record { unit = r.unit; fields = put_field (not_primary r) r.fields } else r) ≡ false
    go true e =
        let l = leaf_at r.unit.attribute Primary in
        elim (cases_Bool (says l (put_field (not_primary r) r.fields))) [ inl t ↦ (let f = says_put (not_primary r) l r.fields (leaf_same l l refl) t in cc) | inr n ↦ n ]
    go false e = e

-- a value whose field of a leaf is taken away is primary only if it was
pub primary_without : (l : Leaf) (r : Row) → is_primary (row_without l r) ≡ true → is_primary r ≡ true
primary_without l r h = says_kept (λ m. not (is_same_leaf m l)) (leaf_at r.unit.attribute Primary) r.fields h

-- so is one that loses it only where it is a match
pub primary_cleared : (t : Tree) (b : SubAttribute) (r : Row) → is_primary (cleared_at_match t b r) ≡ true → is_primary r ≡ true
primary_cleared t b r = go (truth_in_value t r)
  where
    go : (c : Bool) → is_primary (if c then row_without (leaf_at r.unit.attribute b) r else r) ≡ true → is_primary r ≡ true
    go true h = primary_without (leaf_at r.unit.attribute b) r h
    go false h = h

-- a value that the step leaves is loose if it is primary
pub loose_kept : (r : Row) → is_loose (kept r) ≡ true → is_primary r ≡ true
loose_kept r h = h

-- one with given fields over its own is loose only if it was primary
pub loose_over : (given : List Field) (r : Row) → AllPairs Rises given → is_loose (set_over given r) ≡ true → is_primary r ≡ true
loose_over given r order h =
    let l = leaf_at r.unit.attribute Primary in
    says_over l given r.fields order (not-true (says l given) (and_first _ _ h)) (and_second _ _ h)

-- so is one that has them only where it is a match
pub loose_at_match : (t : Tree) (given : List Field) (r : Row) → AllPairs Rises given → is_loose (set_at_match t given r) ≡ true → is_primary r ≡ true
loose_at_match t given r order = go (truth_in_value t r)
  where
    go : (b : Bool) → is_loose (if b then set_over given r else kept r) ≡ true → is_primary r ≡ true
    go true h = loose_over given r order h
    go false h = h

-- one that is made is never loose
pub loose_made : (r : Row) → is_loose (made r) ≡ false
loose_made r = go (is_primary r)
  where
    go : (b : Bool) → not b && b ≡ false
    go true = refl
    go false = refl

-- ---- given values

-- each value is the same as itself
same_itself : (a : Attribute) (r : Row) → is_same_value a r r ≡ true
same_itself a r = go (is_members a)
  where
    named : (o : Option Atom) → option_eq is_same_atom o o ≡ true
    named None = refl
    named (Some x) = (is_same_atom-Decides x x).1 refl

    go : (b : Bool) → (if b then option_eq is_same_atom (member_value r) (member_value r) else is_same_row r r) ≡ true
    go true = named (member_value r)
    go false = (is_same_row-Decides r r).1 refl

module _ (a : Attribute) where
  -- whether a value is the same as one of these
  abbrev has_same : Row → List Row → Bool
  has_same v rs = list_any (λ s. is_same_value a s v) rs

  -- values with one more have one that is the same as it
  same_added : (rs : List Row) (r : Row) → has_same r (with_value a rs r) ≡ true
  same_added rs r = go (has_same r rs) refl
    where
      go : (b : Bool) → has_same r rs ≡ b → has_same r (if b then rs else rs ++ r ∷ []) ≡ true
      go true e = e
      go false e = rw (list_any-append (λ s. is_same_value a s r) rs (r ∷ []), e, same_itself a r) refl

  -- and still those that they had
  same_with : (v : Row) (rs : List Row) (r : Row) → has_same v rs ≡ true → has_same v (with_value a rs r) ≡ true
  same_with v rs r h = go (has_same r rs)
    where
      go : (b : Bool) → has_same v (if b then rs else rs ++ r ∷ []) ≡ true
      go true = h
      go false = rw (list_any-append (λ s. is_same_value a s v) rs (r ∷ []), h) refl

  -- and so they do with more
  same_stays : (v : Row) (rs more : List Row) → has_same v rs ≡ true → has_same v (with_values a rs more) ≡ true
  same_stays v rs [] h = h
  same_stays v rs (r ∷ more) h = same_stays v (with_value a rs r) more (same_with v rs r h)

  -- of values that are added each is the same as one that is there then
  each_same : (rs more : List Row) → All (λ v. has_same v (with_values a rs more) ≡ true) more
  each_same rs [] = All-nil (λ v. has_same v (with_values a rs []) ≡ true)
  each_same rs (r ∷ more) =
      All-cons (λ v. has_same v (with_values a (with_value a rs r) more) ≡ true) r more (same_stays r (with_value a rs r) more (same_added rs r)) (each_same (with_value a rs r) more)

  -- no more values that are added pass a test than are given
  count_with : (q : Row → Bool) (rs more : List Row) → count_by q (with_values a rs more) ≤ count_by q rs + count_by q more
  count_with q rs [] = omega arith
  count_with q rs (r ∷ more) =
      let one : count_by q (with_value a rs r) ≤ count_by q rs + cond (q r) 1 0 = go (has_same r rs) in
      omega (arith, one, count_with q (with_value a rs r) more, sum_by-cons (λ s. cond (q s) 1 0) r more)
    where
      go : (b : Bool) → count_by q (if b then rs else rs ++ r ∷ []) ≤ count_by q rs + cond (q r) 1 0
      go true = omega arith
      go false = omega (arith, sum_by-append (λ s. cond (q s) 1 0) rs (r ∷ []))

-- where all that pass the second test pass the first, none passes the second alone
unmarked : (p q : Row → Bool) (rs : List Row) → All (λ r. p r ≡ true) (filter q rs) → All (λ r. not (p r) && q r ≡ false) rs
unmarked p q [] h = All-nil (λ r. not (p r) && q r ≡ false)
unmarked p q (r ∷ rs) h = elim (cases_Bool (q r)) [
  | inl t ↦
      let all : All (λ s. p s ≡ true) (r ∷ filter q rs) = rw t at h in
      All-cons (λ s. not (p s) && q s ≡ false) r rs (rw (All-head (λ s. p s ≡ true) r (filter q rs) all) refl) (unmarked p q rs (All-tail (λ s. p s ≡ true) r (filter q rs) all))
  | inr n ↦ All-cons (λ s. not (p s) && q s ≡ false) r rs (rw n (and-false (not (p r)))) (unmarked p q rs (rw n at h))
]

module _ (a : Attribute) (given : List Row) where
  -- whether a value is loose where those that are the same as a given primary one are chosen
  abbrev is_unmarked : Row → Bool
  is_unmarked r = is_loose (marked a (given_primary a given) r)

  -- no given value is
  given_marked : All (λ r. is_unmarked r ≡ false) given
  given_marked = unmarked (λ r. has_same a r (given_primary a given)) is_primary given (each_same a [] (filter is_primary given))

  -- of values with others there are no more loose ones than of both
  loose_with : (rs more : List Row) → count_by is_loose (map (marked a (given_primary a given)) (with_values a rs more)) ≤ count_by is_unmarked rs + count_by is_unmarked more
  loose_with rs more =
      omega (arith, count_map is_loose is_unmarked (marked a (given_primary a given)) (λ r h. h) (with_values a rs more), count_with a is_unmarked rs more)

  -- with the given values there are no more than were primary
  pub loose_given : (rs : List Row) → count_by is_loose (map (marked a (given_primary a given)) (with_values a rs given)) ≤ count_by is_primary rs
  loose_given rs =
      omega (arith, loose_with rs given, count_less is_unmarked is_primary (λ r. and_second _ _) rs, count_none is_unmarked given given_marked)

-- nor with a given one in place of each match
pub loose_replaced : (a : Attribute) (t : Tree) (g : Row) (rs : List Row)
    → count_by is_loose (map (marked a (given_primary a (g ∷ []))) (with_values a [] (map (replaced_at_match t g) rs))) ≤ count_by is_primary rs
loose_replaced a t g rs =
    omega (arith, loose_with a (g ∷ []) [] (map (replaced_at_match t g) rs), count_map (is_unmarked a (g ∷ [])) is_primary (replaced_at_match t g) (λ r. go r (truth_in_value t r)) rs)
  where
    go : (r : Row) (b : Bool) → is_unmarked a (g ∷ []) (if b then g else r) ≡ true → is_primary r ≡ true
    go r true h = (let n = All-head (λ s. is_unmarked a (g ∷ []) s ≡ false) g [] (given_marked a (g ∷ [])) in cc)
    go r false h = and_second _ _ h
