-- Cells left out of those of a part, and positions closed up.
use Rattle.std.proofs.Common.{◌≡◌, ℕ, ◌+◌, ◌≤◌, ◌<◌, refl, sym, ◌∙◌, ap, subst, eq-eqb, Bool, true, false, ◌&&◌, eqb, arith, List, [], ◌∷◌, filter, inl, inr, ◌⊎◌}
use Rattle.std.specs.Prelude.{Option, None, Some, if◌then◌else◌, All}
use Rattle.std.proofs.lemmas.Bool.{cases_Bool}
use Rattle.std.proofs.lemmas.List.Elements.{All-nil, All-cons, All-head, All-tail, All-filter}
use denote.Enum.Bare.{sameb, same_true, true_same, tag_one}
use Rattle.std.specs.declared.cmp.Ordering.TheVariants.{Less, Equal}
use Rattle.std.specs.Ordering.{nat_cmp, ordering_then}
use Rattle.std.specs.Cmp.{ranked}
use Rattle.std.specs.FinMap.{is_sorted, entries}
use Rattle.std.specs.FinMap.Entries.{below_all}
use Rattle.scim_schema.specs.declared.Kind.{Kind}
use Rattle.scim_schema.specs.contracts.Attribute.{the_type as the_attribute}
use Rattle.scim_schema.specs.Characteristics.{is_multi_valued}
use Rattle.scim_cell.specs.declared.places.Place.{Place}
use Rattle.scim_cell.specs.Place.{place_cmp, attribute_number, sub_attribute_number}
use Rattle.scim_cell.specs.Content.{Content, Entry, IsPart, IsOfKind, StandsInLine, ArePartCells}
use Rattle.scim_value.specs.code.Chain.{GoesOn, IsChain}
use Rattle.scim_value.proofs.ChainLemmas.{unequal, and_first, and_second, and_true, is_less, position_le, less_not_after}
use Rattle.scim_cell.specs.Rows.{Row, goes_with, is_led, led, rows_of, AreSound}
use Rattle.scim_value.proofs.OrderLemmas.{nat_less, nat_tied, first_less, second_less, then_less}
use Rattle.scim_value.proofs.OfLemmas.{MayStand, sound_rows}
use Rattle.scim_value.proofs.RowLemmas.{sorted_entries}

-- where a cell stood, and its position now
abbrev pub Moved : Type 0
Moved = Place × ℕ

-- the position of a cell after the last
unfoldable pub position_after : Option Moved → Place → ℕ
position_after None p = 0
position_after (Some b) p = if sameb the_attribute b.0.attribute p.attribute then (if eqb b.0.position p.position then b.1 else b.1 + 1) else 0

abbrev pub moved : Entry → ℕ → Entry
moved e k = (record e.0 { position = k }, e.1)

-- each at the position of the one before it or the next
abbrev pub closed : Option Moved → List Entry → List Entry
closed b [] = []
closed b (e ∷ es) = moved e (position_after b e.0) ∷ closed (Some (e.0, position_after b e.0)) es

-- the last stood before all of these, at no lower position than it has now
abbrev pub StoodBefore : Option Moved → List Entry → Type 0
StoodBefore None es = is_sorted place_cmp es ≡ true
StoodBefore (Some b) es = (is_sorted place_cmp es ≡ true) × (below_all place_cmp b.0 es ≡ true) × (b.1 ≤ b.0.position)

abbrev pub IsBefore : Option Moved → Place → Type 0
IsBefore None p = Unit {0}
IsBefore (Some b) p = (place_cmp b.0 p ≡ Less) × (b.1 ≤ b.0.position)

-- what a filter keeps of sorted entries
below-filter : (p : Entry → Bool) (x : Place) (es : List Entry) → below_all place_cmp x es ≡ true → below_all place_cmp x (filter p es) ≡ true
below-filter p x [] h = refl
below-filter p x (e ∷ es) h =
    let ih = below-filter p x es (and_second _ _ h) in
    elim (cases_Bool (p e)) [ inl t ↦ rw t (and_true _ _ (and_first _ _ h) ih) | inr t ↦ rw t ih ]

pub sorted-filter : (p : Entry → Bool) (es : List Entry) → is_sorted place_cmp es ≡ true → is_sorted place_cmp (filter p es) ≡ true
sorted-filter p [] h = refl
sorted-filter p (e ∷ es) h =
    let ih = sorted-filter p es (and_second _ _ h) in
    elim (cases_Bool (p e)) [ inl t ↦ rw t (and_true _ _ (below-filter p e.0 es (and_first _ _ h)) ih) | inr t ↦ rw t ih ]

pub is_before : (b : Option Moved) (e : Entry) (es : List Entry) → StoodBefore b (e ∷ es) → IsBefore b e.0
is_before None e es h = tt
is_before (Some b) e es h = (is_less _ (and_first _ _ h.1), h.2)

-- a cell's new position isn't above its old one
lower : (b : Option Moved) (p : Place) → IsBefore b p → position_after b p ≤ p.position
unfolding position_after
lower None p h = omega arith
lower (Some b) p h = elim (cases_Bool (sameb the_attribute b.0.attribute p.attribute)) [
  | inl s ↦
      let a : b.0.attribute ≡ p.attribute = same_true the_attribute tt _ _ s in
      let le : b.0.position ≤ p.position = position_le b.0 p (less_not_after b.0 p h.0) a in
      let low : b.1 ≤ b.0.position = h.1 in
      elim (cases_Bool (eqb b.0.position p.position)) [
        | inl t ↦ rw (s, t) (omega arith)
        | inr t ↦ let lt : b.0.position < p.position = unequal _ _ t le in rw (s, t) (omega arith)
      ]
  | inr s ↦ rw s (omega arith)
]

pub stood_kept : (b : Option Moved) (e : Entry) (es : List Entry) → StoodBefore b (e ∷ es) → StoodBefore (Some (e.0, position_after b e.0)) es
stood_kept None e es h = (and_second _ _ h, and_first _ _ h, lower None e.0 tt)
stood_kept (Some b) e es h = (and_second _ _ h.0, and_first _ _ h.0, lower (Some b) e.0 (is_less _ (and_first _ _ h.1), h.2))

abbrev pub now_at : Option Moved → Option Place
now_at None = None
now_at (Some b) = Some (record b.0 { position = b.1 })

-- order is kept
stays_less : (b : Moved) (p : Place) → place_cmp b.0 p ≡ Less → place_cmp (record b.0 { position = b.1 }) (record p { position = position_after (Some b) p }) ≡ Less
unfolding position_after
stays_less b p h =
    let by_attribute = nat_cmp (attribute_number b.0.attribute) (attribute_number p.attribute) in
    let by_part = nat_cmp (sub_attribute_number b.0.sub_attribute) (sub_attribute_number p.sub_attribute) in
    elim (then_less by_attribute (ordering_then (nat_cmp b.0.position p.position) by_part) h) [
      | inl less ↦ first_less by_attribute _ less
      | inr rest ↦
          let t : attribute_number b.0.attribute ≡ attribute_number p.attribute = ranked _ _ Equal (sym rest.0) in
          let a : b.0.attribute ≡ p.attribute = tag_one the_attribute tt b.0.attribute p.attribute t in
          let s : sameb the_attribute b.0.attribute p.attribute ≡ true = true_same the_attribute b.0.attribute p.attribute a in
          second_less by_attribute _ rest.0 (elim (then_less (nat_cmp b.0.position p.position) by_part rest.1) [
            | inl less ↦
                let l : b.0.position < p.position = ranked _ _ Less (sym less) in
                let n : eqb b.0.position p.position ≡ false = grind arith in
                let up : b.1 < (if eqb b.0.position p.position then b.1 else b.1 + 1) = rw n (omega arith) in
                rw s (first_less _ by_part (nat_less _ _ up))
            | inr same ↦
                let l : b.0.position ≡ p.position = ranked _ _ Equal (sym same.0) in
                let n : eqb b.0.position p.position ≡ true = eq-eqb _ _ l in
                let up : b.1 ≡ (if eqb b.0.position p.position then b.1 else b.1 + 1) = rw n refl in
                rw s (second_less _ by_part (nat_tied _ _ up) same.1)
          ])
    ]

-- no gap
goes : (b : Moved) (p : Place) → is_multi_valued p.attribute ≡ true → (s : Bool) → sameb the_attribute b.0.attribute p.attribute ≡ s
    → (position_after (Some b) p ≡ 0) ⊎ GoesOn (record b.0 { position = b.1 }) (record p { position = position_after (Some b) p })
unfolding position_after
goes b p m true s =
    let up : (if eqb b.0.position p.position then b.1 else b.1 + 1) ≤ b.1 + 1 = elim (cases_Bool (eqb b.0.position p.position)) [ inl t ↦ rw t (omega arith) | inr t ↦ rw t (omega arith) ] in
    rw s (inr (m, same_true the_attribute tt _ _ s, up))
goes b p m false s = rw s (inl refl)

first_at : (p : Place) → position_after None p ≡ 0
unfolding position_after
first_at p = refl

-- no gap
stays_on : (b : Moved) (p : Place) → IsBefore (Some b) p → MayStand (p, Rattle.scim_cell.specs.declared.atoms.Atom.Atom.Truth true)
    → (position_after (Some b) p ≡ 0) ⊎ GoesOn (record b.0 { position = b.1 }) (record p { position = position_after (Some b) p })
stays_on b p h (inl z) = let low : position_after (Some b) p ≤ p.position = lower (Some b) p h in inl (omega arith)
stays_on b p h (inr m) = goes b p m (sameb the_attribute b.0.attribute p.attribute) refl

pub closed_chain : (kind : Kind) (b : Option Moved) (es : List Entry) → StoodBefore b es → All (IsOfKind kind) es → All MayStand es → IsChain kind (now_at b) (closed b es)
closed_chain kind b [] h own stand = tt
closed_chain kind None (e ∷ es) h own stand = (
  All-head (IsOfKind kind) e es own,
  first_at e.0,
  closed_chain kind (Some (e.0, position_after None e.0)) es (stood_kept None e es h) (All-tail (IsOfKind kind) e es own) (All-tail MayStand e es stand),
)
closed_chain kind (Some b) (e ∷ es) h own stand =
    let before = is_before (Some b) e es h in (
      All-head (IsOfKind kind) e es own,
      (stays_less b e.0 before.0, stays_on b e.0 before (All-head MayStand e es stand)),
      closed_chain kind (Some (e.0, position_after (Some b) e.0)) es (stood_kept (Some b) e es h) (All-tail (IsOfKind kind) e es own) (All-tail MayStand e es stand),
    )

pub may_stand : (all es : List Entry) → All (λ e. StandsInLine all e.0) es → All MayStand es
may_stand all [] h = All-nil (MayStand)
may_stand all (e ∷ es) h =
    let own : MayStand e = elim (All-head (λ (f : Entry). StandsInLine all f.0) e es h) [ inl z ↦ inl z | inr m ↦ inr m.0 ] in
    All-cons MayStand e es own (may_stand all es (All-tail (λ (f : Entry). StandsInLine all f.0) e es h))

-- kept cells with positions closed up are a part's
pub kept_chain : (kind : Kind) (p : Entry → Bool) (es : List Entry) → is_sorted place_cmp es ≡ true → ArePartCells kind es → IsChain kind None (closed None (filter p es))
kept_chain kind p es s h =
    closed_chain kind None (filter p es) (sorted-filter p es s) (All-filter p (IsOfKind kind) es h.of_kind) (All-filter p MayStand es (may_stand es es h.in_line))

-- closing up keeps together what is, and no more
eqb_next : (m n k : ℕ) → eqb k (if eqb m n then k else k + 1) ≡ eqb m n
eqb_next m n k = elim (cases_Bool (eqb m n)) [
  | inl t ↦ rw t (eq-eqb k k refl)
  | inr t ↦ rw t (grind arith)
]

pub closed_with : (k : ℕ) (p q : Place) → goes_with (record p { position = k }) (record q { position = position_after (Some (p, k)) q }) ≡ goes_with p q
unfolding goes_with position_after
closed_with k p q = elim (cases_Bool (sameb the_attribute p.attribute q.attribute)) [
  | inl t ↦ rw t (ap (λ x. is_multi_valued p.attribute && x) (eqb_next p.position q.position k))
  | inr t ↦ rw t refl
]

-- closing up changes no values
closed_led : (k : ℕ) (e : Entry) (es : List Entry) → is_led (moved e k) (closed (Some (e.0, k)) es) ≡ is_led e es
closed_led k e [] = refl
closed_led k e (f ∷ es) = closed_with k e.0 f.0

led_moved : (b : Bool) (k : ℕ) (e : Entry) (rs : List Row) → led b (moved e k) rs ≡ led b e rs
led_moved true k e [] = refl
led_moved true k e (r ∷ rs) = refl
led_moved false k e rs = refl

pub rows_closed : (b : Option Moved) (es : List Entry) → rows_of (closed b es) ≡ rows_of es
rows_closed b [] = refl
rows_closed b (e ∷ es) =
    let k = position_after b e.0 in
    led_moved _ k e _ ∙ (λ i. led (closed_led k e es i) e (rows_closed (Some (e.0, k)) es i))

-- the rows of the cells left are sound
pub kept_sound : (p : Entry → Bool) (c : Content) → IsPart c → AreSound c.kind (rows_of (filter p (entries c.cells)))
kept_sound p c h =
    subst (AreSound c.kind) (rows_closed None (filter p (entries c.cells)))
    (sound_rows c.kind (closed None (filter p (entries c.cells))) (kept_chain c.kind p (entries c.cells) (sorted_entries c) h))
