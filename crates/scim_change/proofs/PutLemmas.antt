-- Rows with other values of some units: of these the values that were put in, of each other unit those that were there.
use Rattle.std.proofs.Common.{◌≡◌, ◌≢◌, refl, sym, ◌∙◌, ap, subst, Bool, true, false, ◌&&◌, inl, inr, List, [], ◌∷◌, ◌++◌, append-nil, filter}
use Rattle.std.specs.Prelude.{All}
use Rattle.std.specs.List.{list_any}
use Rattle.std.specs.Ordering.{is_lt, is_eq, is_gt}
use Rattle.std.specs.declared.cmp.Ordering.{Ordering}
use Rattle.std.specs.declared.cmp.Ordering.TheVariants.{Less, Equal, Greater}
use Rattle.std.specs.Cmp.{tied_itself}
use Rattle.std.proofs.Math.Bool.{and-false}
use Rattle.std.proofs.lemmas.Bool.{cases_Bool}
use Rattle.std.proofs.lemmas.List.Elements.{All-head, All-tail, All-append, All-weaker, All-filter, filter-append, filter_passes}
use Rattle.scim_schema.specs.declared.Kind.{Kind}
use Rattle.scim_schema.specs.declared.Unit.{Unit as AttributeUnit}
use Rattle.scim_schema.specs.Characteristics.{is_multi_valued}
use Rattle.scim_schema.specs.Mutability.{is_fixed}
use Rattle.scim_schema.specs.Units.{is_same_unit}
use Rattle.scim_schema.proofs.Facts.{is_same_unit-Decides}
use Rattle.scim_cell.specs.Place.{unit_cmp}
use Rattle.scim_cell.specs.Rows.{Row, values, put_values, has_fields, IsSoundRow, AreSound, AreValues}
use Rattle.scim_value.proofs.Facts.{filter_filter, one_value, put_sound, unit_same, unit_total}
use Rattle.scim_body.specs.Drafts.{Draft}
use Rattle.scim_change.specs.Replace.{with_units}
use Rattle.scim_change.proofs.ValueLemmas.{is_own, none_own}

-- ---- values of one unit put in

lt_not_eq : (o : Ordering) → is_lt o ≡ true → is_eq o ≡ false
lt_not_eq Less e = refl
lt_not_eq Equal e = cc
lt_not_eq Greater e = refl

gt_not_eq : (o : Ordering) → is_gt o ≡ true → is_eq o ≡ false
gt_not_eq Less e = refl
gt_not_eq Equal e = cc
gt_not_eq Greater e = refl

-- a row of the unit passes the test of it
passes_own : (u : AttributeUnit) (r : Row) → r.unit ≡ u → is_own u r ≡ true
passes_own u r e = ap (λ v. is_eq (unit_cmp v u)) e ∙ ap is_eq (tied_itself unit_total u)

-- a row that stands before the unit, or after it, isn't of it
pub before_apart : (u : AttributeUnit) (r : Row) → is_lt (unit_cmp r.unit u) ≡ true → r.unit ≢ u
before_apart u r l e = let t = passes_own u r e in let f = lt_not_eq (unit_cmp r.unit u) l in cc

pub after_apart : (u : AttributeUnit) (r : Row) → is_gt (unit_cmp r.unit u) ≡ true → r.unit ≢ u
after_apart u r g e = let t = passes_own u r e in let f = gt_not_eq (unit_cmp r.unit u) g in cc

all_own : (u : AttributeUnit) (vs : List Row) → All (λ (r : Row). r.unit ≡ u) vs → values u vs ≡ vs
all_own u [] h = refl
all_own u (r ∷ vs) h =
    rw (passes_own u r (All-head (λ (s : Row). s.unit ≡ u) r vs h)) (ap (λ rs. r ∷ rs) (all_own u vs (All-tail (λ (s : Row). s.unit ≡ u) r vs h)))

-- a test that each row of the unit passes hides none of them
pub within : (u : AttributeUnit) (p : Row → Bool) (rs : List Row) → ((r : Row) → r.unit ≡ u → p r ≡ true) → values u (filter p rs) ≡ values u rs
within u p rs h = filter_filter p (is_own u) (is_own u) both rs
  where
    both : (r : Row) → is_own u r ≡ p r && is_own u r
    both r = elim (cases_Bool (is_own u r)) [
      | inl t ↦ rw (h r (unit_same r.unit u t), t) refl
      | inr n ↦ rw n (sym (and-false (p r)))
    ]

-- and one that no row of the unit passes leaves none
without : (u : AttributeUnit) (p : Row → Bool) (rs : List Row) → ((r : Row) → p r ≡ true → r.unit ≢ u) → values u (filter p rs) ≡ []
without u p rs h = none_own u (filter p rs) (All-weaker (λ r. p r ≡ true) (λ (r : Row). r.unit ≢ u) h (filter p rs) (filter_passes p rs))

module _ (u : AttributeUnit) (vs rs : List Row) (own : All (λ (r : Row). r.unit ≡ u) vs) where
  abbrev lows : List Row
  lows = filter (λ (r : Row). is_lt (unit_cmp r.unit u)) rs

  abbrev highs : List Row
  highs = filter (λ (r : Row). is_gt (unit_cmp r.unit u)) rs

  parts : (v : AttributeUnit) → values v (put_values u vs rs) ≡ values v lows ++ (values v vs ++ values v highs)
  parts v = filter-append (is_own v) lows (vs ++ highs) ∙ ap (λ ss. values v lows ++ ss) (filter-append (is_own v) vs highs)

  -- of the unit just these
  pub values_put : values u (put_values u vs rs) ≡ vs
  values_put =
      let low = without u (λ (r : Row). is_lt (unit_cmp r.unit u)) rs (before_apart u) in
      let high = without u (λ (r : Row). is_gt (unit_cmp r.unit u)) rs (after_apart u) in
      parts u ∙ (λ i. low i ++ (all_own u vs own i ++ high i)) ∙ append-nil vs

  -- of another unit those that were there
  pub values_stay : (v : AttributeUnit) → u ≢ v → values v (put_values u vs rs) ≡ values v rs
  values_stay v n = parts v ∙ ap (λ ss. values v lows ++ (ss ++ values v highs)) none ∙ rest (unit_cmp v u) refl
    where
      none : values v vs ≡ []
      none = none_own v vs (All-weaker (λ (r : Row). r.unit ≡ u) (λ (r : Row). r.unit ≢ v) (λ r e f. n (sym e ∙ f)) vs own)

      rest : (o : Ordering) → unit_cmp v u ≡ o → values v lows ++ values v highs ≡ values v rs
      rest Less e =
          let low = within v (λ (r : Row). is_lt (unit_cmp r.unit u)) rs (λ r f. ap (λ w. is_lt (unit_cmp w u)) f ∙ ap is_lt e) in
          let high = without v (λ (r : Row). is_gt (unit_cmp r.unit u)) rs (λ r g f. (let no : is_gt (unit_cmp r.unit u) ≡ false = ap (λ w. is_gt (unit_cmp w u)) f ∙ ap is_gt e in cc)) in
          (λ i. low i ++ high i) ∙ append-nil (values v rs)
      rest Equal e = absurd (n (sym (unit_same v u (ap is_eq e))))
      rest Greater e =
          let low = without v (λ (r : Row). is_lt (unit_cmp r.unit u)) rs (λ r l f. (let no : is_lt (unit_cmp r.unit u) ≡ false = ap (λ w. is_lt (unit_cmp w u)) f ∙ ap is_lt e in cc)) in
          let high = within v (λ (r : Row). is_gt (unit_cmp r.unit u)) rs (λ r f. ap (λ w. is_gt (unit_cmp w u)) f ∙ ap is_gt e) in
          λ i. low i ++ high i

-- what holds of all rows of both holds of all
pub put_all : (P : Row → Type 0) (u : AttributeUnit) (vs rs : List Row) → All P vs → All P rs → All P (put_values u vs rs)
put_all P u vs rs own other =
    let low = λ (r : Row). is_lt (unit_cmp r.unit u) in
    let high = λ (r : Row). is_gt (unit_cmp r.unit u) in
    All-append P (filter low rs) (vs ++ filter high rs) (All-filter low P rs other) (All-append P vs (filter high rs) own (All-filter high P rs other))

-- ---- values of a unit of sound rows

pub values_units : (u : AttributeUnit) (rs : List Row) → All (λ (r : Row). r.unit ≡ u) (values u rs)
values_units u rs = All-weaker (λ r. is_own u r ≡ true) (λ (r : Row). r.unit ≡ u) (λ r t. unit_same r.unit u t) (values u rs) (filter_passes (is_own u) rs)

-- they may be put in
pub values_fit : (kind : Kind) (u : AttributeUnit) (rs : List Row) → AreSound kind rs → AreValues kind u (values u rs)
values_fit kind u rs h = record {
  few = elim (cases_Bool (is_multi_valued u.attribute)) [ inl t ↦ inl t | inr n ↦ inr (one_value kind u rs h n) ];
  own = λ k e l. (values_units u rs k e l, All-filter (is_own u) (λ r. has_fields r ≡ true) rs h.full k e l, All-filter (is_own u) (IsSoundRow kind) rs h.own k e l);
}

-- ---- values of some units put in, one unit after another

-- whether a unit is one of these
abbrev pub is_listed : AttributeUnit → List AttributeUnit → Bool
is_listed v us = list_any (is_same_unit v) us

-- one that isn't fixed is none that is
pub unlisted : (kind : Kind) (us : List AttributeUnit) (v : AttributeUnit) → All (λ u. is_fixed kind u ≡ false) us → is_fixed kind v ≡ true → is_listed v us ≡ false
unlisted kind [] v free fixed = refl
unlisted kind (u ∷ us) v free fixed = elim (cases_Bool (is_same_unit v u)) [
  | inl t ↦
      let same : v ≡ u = (is_same_unit-Decides v u).0 t in
      let own = All-head (λ w. is_fixed kind w ≡ false) u us free in
      let other : is_fixed kind u ≡ true = ap (is_fixed kind) (sym same) ∙ fixed in cc
  | inr n ↦ rw n (unlisted kind us v (All-tail (λ w. is_fixed kind w ≡ false) u us free) fixed)
]

module _ (d : Draft) where
  -- of a unit that is none of these its own
  pub values_unlisted : (us : List AttributeUnit) (v : AttributeUnit) (rs : List Row) → is_listed v us ≡ false → values v (with_units d us rs) ≡ values v rs
  values_unlisted [] v rs none = refl
  values_unlisted (u ∷ us) v rs none = elim (cases_Bool (is_same_unit v u)) [
    | inl t ↦ absurd (let some : is_listed v (u ∷ us) ≡ true = rw t refl in cc)
    | inr n ↦
        let other : u ≢ v = λ e. (let t : is_same_unit v u ≡ true = (is_same_unit-Decides v u).1 (sym e) in cc) in
        values_unlisted us v (put_values u (values u d.rows) rs) (rw n at none) ∙ values_stay u (values u d.rows) rs (values_units u d.rows) v other
  ]

  -- and of one that is, the draft's
  pub values_listed : (us : List AttributeUnit) (v : AttributeUnit) (rs : List Row) → is_listed v us ≡ true → values v (with_units d us rs) ≡ values v d.rows
  values_listed [] v rs some = cc
  values_listed (u ∷ us) v rs some = elim (cases_Bool (is_listed v us)) [
    | inl t ↦ values_listed us v (put_values u (values u d.rows) rs) t
    | inr n ↦ elim (cases_Bool (is_same_unit v u)) [
      | inl t ↦
          values_unlisted us v (put_values u (values u d.rows) rs) n
          ∙ subst (λ w. values w (put_values u (values u d.rows) rs) ≡ values w d.rows) (sym ((is_same_unit-Decides v u).0 t)) (values_put u (values u d.rows) rs (values_units u d.rows))
      | inr m ↦ absurd (let none : is_listed v (u ∷ us) ≡ false = rw (m, n) refl in cc)
    ]
  ]

  pub with_all : (P : Row → Type 0) (us : List AttributeUnit) (rs : List Row) → All P d.rows → All P rs → All P (with_units d us rs)
  with_all P [] rs own other = other
  with_all P (u ∷ us) rs own other =
      with_all P us (put_values u (values u d.rows) rs) own (put_all P u (values u d.rows) rs (All-filter (is_own u) P d.rows own) other)

  pub with_sound : (kind : Kind) (us : List AttributeUnit) (rs : List Row) → AreSound kind d.rows → AreSound kind rs → AreSound kind (with_units d us rs)
  with_sound kind [] rs own other = other
  with_sound kind (u ∷ us) rs own other =
      with_sound kind us (put_values u (values u d.rows) rs) own (put_sound kind u (values u d.rows) rs (values_fit kind u d.rows own) other)
