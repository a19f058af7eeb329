-- What a change of some units leaves of two resources that have the same values there.
use Rattle.std.proofs.Common.{◌≡◌, ◌≢◌, refl, sym, ◌∙◌, ap, subst, ℕ, Bool, true, false, ◌⊎◌, List, [], ◌∷◌, filter, inl, inr}
use Rattle.std.specs.Prelude.{All}
use Rattle.std.proofs.lemmas.Bool.{cases_Bool}
use Rattle.std.proofs.lemmas.List.Elements.{All-head, All-tail, All-cons, All-nil}
use Rattle.scim_schema.specs.declared.Kind.{Kind}
use Rattle.scim_schema.specs.declared.Attribute.{Attribute}
use Rattle.scim_schema.specs.declared.Unit.{Unit as AttributeUnit}
use Rattle.scim_schema.specs.Units.{is_same_unit}
use Rattle.scim_schema.proofs.Facts.{is_same_unit-Decides}
use Rattle.scim_cell.specs.Content.{Content}
use Rattle.scim_cell.specs.Rows.{Row, Test, by_leaf, rows, content, values, restricted, AreSound}
use Rattle.scim_value.specs.Resource.{IsResource}
use Rattle.scim_value.proofs.Facts.{part_content, restricted_sound, rows_content, sound_part}
use Rattle.scim_change.specs.Laws.{AgreeAt, EndsAlike, IsApart, IsLeft}
use Rattle.scim_change.proofs.Facts.{stamp}
use Rattle.scim_patch_steps.proofs.Facts.{same_content}
use Rattle.scim_noninterference.proofs.RowLemmas.{values_restricted, attributes_kept}

-- ---- rows that agree unit by unit

-- rows of which the same is kept of each unit
pub same_restricted : (kind : Kind) (keep : Test) (xs ys : List Row) → AreSound kind xs → AreSound kind ys
    → ((u : AttributeUnit) → restricted keep (values u xs) ≡ restricted keep (values u ys)) → restricted keep xs ≡ restricted keep ys
same_restricted kind keep xs ys first second same =
    let sound_x = restricted_sound kind keep xs first in
    let sound_y = restricted_sound kind keep ys second in
    let rows_x = rows_content kind [] (restricted keep xs) sound_x in
    let rows_y = rows_content kind [] (restricted keep ys) sound_y in
    let by_unit : (u : AttributeUnit) → values u (rows (content kind [] (restricted keep xs))) ≡ values u (rows (content kind [] (restricted keep ys)))
    = λ u. ap (values u) rows_x ∙ values_restricted keep u xs ∙ same u ∙ sym (values_restricted keep u ys) ∙ sym (ap (values u) rows_y) in
    sym rows_x
    ∙ ap rows (same_content (content kind [] (restricted keep xs)) (content kind [] (restricted keep ys)) (part_content kind [] _ sound_x) (part_content kind [] _ sound_y) refl refl by_unit)
    ∙ rows_y

-- ---- what a change leaves

-- a unit is one of some, at which the values are the same, or it is none of them
among : (us : List AttributeUnit) (x y : Content) (u : AttributeUnit) → AgreeAt us x y → (values u (rows x) ≡ values u (rows y)) ⊎ All (λ v. v ≢ u) us
among [] x y u agree = inr (All-nil (λ v. v ≢ u))
among (v ∷ us) x y u agree = elim (cases_Bool (is_same_unit v u)) [
  | inl t ↦ inl (subst (λ w. values w (rows x) ≡ values w (rows y)) ((is_same_unit-Decides v u).0 t) (All-head (λ w. values w (rows x) ≡ values w (rows y)) v us agree))
  | inr n ↦ elim (among us x y u (All-tail (λ w. values w (rows x) ≡ values w (rows y)) v us agree)) [
    | inl same ↦ inl same
    | inr none ↦ inr (All-cons (λ w. w ≢ u) v us (λ e. (let t : is_same_unit v u ≡ true = (is_same_unit-Decides v u).1 e in cc)) none)
  ]
]

module _ (us : List AttributeUnit) (changed : Bool) (moment : ℕ) (a b x y : Content) (agree : AgreeAt us x y) (first : IsLeft us changed moment a x) (second : IsLeft us changed moment b y) where
  -- of each unit both have the same values, or each has its own from before
  abbrev IsTold : AttributeUnit → Type 0
  IsTold u = (values u (rows x) ≡ values u (rows y)) ⊎ ((values u (rows x) ≡ values u (rows a)) × (values u (rows y) ≡ values u (rows b)))

  stamped : (c : Bool) → changed ≡ c → IsTold stamp
  stamped true e = inl (rw e at first.modified ∙ sym (rw e at second.modified))
  stamped false e = inr (rw e at first.modified, rw e at second.modified)

  told : (u : AttributeUnit) → IsTold u
  told u = elim (among us x y u agree) [
    | inl same ↦ inl same
    | inr none ↦ elim (cases_Bool (is_same_unit stamp u)) [
      | inl t ↦ subst IsTold ((is_same_unit-Decides stamp u).0 t) (stamped changed refl)
      | inr n ↦
          let other : stamp ≢ u = λ e. (let t : is_same_unit stamp u ≡ true = (is_same_unit-Decides stamp u).1 e in cc) in
          inr (first.stays u (record { none = none; unstamped = other }), second.stays u (record { none = none; unstamped = other }))
    ]
  ]

  -- so what a test keeps of both is the same afterwards, where it was the same before
  pub kept_same : (one : IsResource x) (two : IsResource y) → x.kind ≡ y.kind → (keep : Test)
      → restricted keep (rows a) ≡ restricted keep (rows b) → restricted keep (rows x) ≡ restricted keep (rows y)
  kept_same one two kinds keep before =
      same_restricted x.kind keep (rows x) (rows y) (sound_part x one.part) (subst (λ k. AreSound k (rows y)) (sym kinds) (sound_part y two.part)) (λ u. by_unit u (told u))
    where
      by_unit : (u : AttributeUnit) → IsTold u → restricted keep (values u (rows x)) ≡ restricted keep (values u (rows y))
      by_unit u (inl same) = ap (restricted keep) same
      by_unit u (inr own) =
          ap (restricted keep) own.0
          ∙ sym (values_restricted keep u (rows a)) ∙ ap (values u) before ∙ values_restricted keep u (rows b)
          ∙ sym (ap (restricted keep) own.1)

-- ---- units that end alike

-- of two resources that were these before, each has its own values of a unit
abbrev AreOwn : Content → Content → Content → Content → AttributeUnit → Type 0
AreOwn a b x y v = (values v (rows x) ≡ values v (rows a)) × (values v (rows y) ≡ values v (rows b))

-- of some units those at which both have the same values; at each other of them each has its own
record AreChosen (us : List AttributeUnit) (a b x y : Content) : Type 0 where
  units : List AttributeUnit
  agree : AgreeAt units x y
  others : (v : AttributeUnit) → All (λ u. u ≢ v) units → All (λ u. u ≢ v) us ⊎ AreOwn a b x y v

choose : (kind : Kind) (us : List AttributeUnit) (a b x y : Content) → All (λ u. EndsAlike kind u a b x y) us → AreChosen us a b x y
choose kind [] a b x y ends = record { units = []; agree = All-nil (λ u. values u (rows x) ≡ values u (rows y)); others = λ v none. inl none }
choose kind (u ∷ us) a b x y ends =
    go (choose kind us a b x y (All-tail (λ u. EndsAlike kind u a b x y) u us ends)) (All-head (λ u. EndsAlike kind u a b x y) u us ends)
  where
    go : AreChosen us a b x y → EndsAlike kind u a b x y → AreChosen (u ∷ us) a b x y
    go rest (inl same) = record {
      units = u ∷ rest.units;
      agree = All-cons (λ w. values w (rows x) ≡ values w (rows y)) u rest.units same rest.agree;
      others = λ v none. elim (rest.others v (All-tail (λ w. w ≢ v) u rest.units none)) [
        | inl n ↦ inl (All-cons (λ w. w ≢ v) u us (All-head (λ w. w ≢ v) u rest.units none) n)
        | inr own ↦ inr own
      ];
    }
    go rest (inr kept) = record {
      units = rest.units;
      agree = rest.agree;
      others = λ v none. elim (rest.others v none) [
        | inr own ↦ inr own
        | inl n ↦ elim (cases_Bool (is_same_unit u v)) [
          | inl t ↦ inr (subst (AreOwn a b x y) ((is_same_unit-Decides u v).0 t) (kept.1, kept.2))
          | inr m ↦ inl (All-cons (λ w. w ≢ v) u us (λ e. (let t : is_same_unit u v ≡ true = (is_same_unit-Decides u v).1 e in cc)) n)
        ]
      ];
    }

-- so a change of units that end alike is a change of units at which both have the same values afterwards
pub record AreSettled (changed : Bool) (moment : ℕ) (a b x y : Content) : Type 0 where
  pub units : List AttributeUnit
  pub agree : AgreeAt units x y
  pub first : IsLeft units changed moment a x
  pub second : IsLeft units changed moment b y

pub settled : (kind : Kind) (us : List AttributeUnit) (changed : Bool) (moment : ℕ) (a b x y : Content) → All (λ u. EndsAlike kind u a b x y) us
    → IsLeft us changed moment a x → IsLeft us changed moment b y → AreSettled changed moment a b x y
settled kind us changed moment a b x y ends first second = record {
  units = chosen.units;
  agree = chosen.agree;
  first = record {
    kind = first.kind;
    id = first.id;
    stays = λ v apart. elim (chosen.others v apart.none) [ inl n ↦ first.stays v (record { none = n; unstamped = apart.unstamped }) | inr own ↦ own.0 ];
    modified = first.modified;
  };
  second = record {
    kind = second.kind;
    id = second.id;
    stays = λ v apart. elim (chosen.others v apart.none) [ inl n ↦ second.stays v (record { none = n; unstamped = apart.unstamped }) | inr own ↦ own.1 ];
    modified = second.modified;
  };
}
  where
    chosen : AreChosen us a b x y
    chosen = choose kind us a b x y ends

-- rows by attribute: the same, said of resources
pub attributes_same : (test : Attribute → Bool) (a : Content) → IsResource a → restricted (by_leaf (λ l. test l.attribute)) (rows a) ≡ filter (λ (r : Row). test r.unit.attribute) (rows a)
attributes_same test a one = (let sound = sound_part a one.part in attributes_kept a.kind test (rows a) sound.full sound.own)
