-- What stands at a place, by rows.
use Rattle.std.proofs.Common.{◌≡◌, ◌≢◌, ℕ, zero, suc, ◌+◌, ◌≤◌, ◌<◌, refl, sym, ◌∙◌, ap, subst, true, false, arith, List, [], ◌∷◌, ◌++◌, inl, inr, length, get_or}
use Rattle.std.specs.Prelude.{Option, None, Some, All}
use Rattle.std.proofs.lemmas.Bool.{cases_Bool}
use Rattle.std.proofs.lemmas.List.Elements.{All-head, All-tail}
use denote.Enum.Bare.{sameb, same_true, true_same}
use Rattle.std.specs.declared.cmp.Ordering.{Ordering}
use Rattle.std.specs.declared.cmp.Ordering.TheVariants.{Less, Equal, Greater}
use Rattle.std.specs.Ordering.{ordering_reverse, is_eq, is_gt}
use Rattle.std.specs.Cmp.{tied_itself}
use Rattle.std.specs.FinMap.{find, get, get-entries}
use Rattle.scim_schema.specs.declared.Kind.{Kind}
use Rattle.scim_schema.specs.declared.Leaf.{Leaf}
use Rattle.scim_schema.specs.contracts.Attribute.{the_type as the_attribute}
use Rattle.scim_schema.specs.declared.Unit.{Unit as AttributeUnit}
use Rattle.scim_schema.specs.Units.{unit_of, is_same_leaf}
use Rattle.scim_schema.specs.Characteristics.{is_multi_valued}
use Rattle.scim_schema.proofs.Facts.{leaf_one, leaf_same}
use Rattle.scim_cell.specs.declared.places.Place.{Place}
use Rattle.scim_cell.specs.declared.atoms.Atom.{Atom}
use Rattle.scim_cell.specs.Place.{unit_cmp, place_cmp, place_at, leaf_of}
use Rattle.scim_cell.specs.Content.{Content, Entry, IsPart}
use Rattle.scim_cell.specs.Rows.{Row, unit_at, next_position, numbered, rows, has_fields, atom_in, atom_at, cell_at, values, IsSoundField, IsSoundRow, Precedes, AreSound}
use Rattle.scim_value.proofs.PlaceLemmas.{place_total, place_same}
use Rattle.scim_value.proofs.OrderLemmas.{unit_total, unit_same}
use Rattle.scim_value.proofs.RowLemmas.{numbered_part}
use Rattle.scim_cell.specs.declared.rows.Field.{Field}
use Rattle.scim_value.proofs.TieLemmas.{placed}

-- the k-th value, and beyond the last
pub atom_at-below : (l : Leaf) (k : ℕ) (rs : List Row) (r : Row) → k < length rs → r ≡ get_or rs k r → atom_at l k rs ≡ atom_in l r.fields
atom_at-below l k [] r h e = absurd (omega arith)
atom_at-below l zero (s ∷ rs) r h e = ap (λ (x : Row). atom_in l x.fields) (sym e)
atom_at-below l (suc k) (s ∷ rs) r h e = atom_at-below l k rs r (omega arith) e

pub atom_at-beyond : (l : Leaf) (k : ℕ) (rs : List Row) → length rs ≤ k → atom_at l k rs ≡ None
atom_at-beyond l k [] h = refl
atom_at-beyond l zero (s ∷ rs) h = absurd (omega arith)
atom_at-beyond l (suc k) (s ∷ rs) h = atom_at-beyond l k rs (omega arith)

find_other : (p q : Place) (a : Atom) (tail : List Entry) → p ≢ q → find place_cmp p ((q, a) ∷ tail) ≡ find place_cmp p tail
find_other p q a tail n =
    elim (place_cmp p q) as (λ r. place_cmp p q ≡ r → find place_cmp p ((q, a) ∷ tail) ≡ find place_cmp p tail) [
      | Less ↦ λ e. rw e refl
      | Equal ↦ λ e. absurd (n (place_same p q e))
      | Greater ↦ λ e. rw e refl
    ] refl

find_same : (p q : Place) (a : Atom) (tail : List Entry) → p ≡ q → find place_cmp p ((q, a) ∷ tail) ≡ Some a
find_same p q a tail e =
    let t : place_cmp p q ≡ Equal = ap (place_cmp p) (sym e) ∙ tied_itself place_total p in
    rw t refl

-- cells at another position, and those of another unit
far : (l : Leaf) (k n : ℕ) (cs : List Field) (tail : List Entry) → k ≢ n → find place_cmp (place_at l k) (placed n cs ++ tail) ≡ find place_cmp (place_at l k) tail
far l k n [] tail d = refl
far l k n (c ∷ cs) tail d = find_other (place_at l k) (place_at c.leaf n) c.atom (placed n cs ++ tail) (λ e. d (ap (λ (p : Place). p.position) e)) ∙ far l k n cs tail d

other : (kind : Kind) (v : AttributeUnit) (l : Leaf) (k n : ℕ) (cs : List Field) (tail : List Entry) → All (IsSoundField kind v) cs → unit_of l ≢ v → find place_cmp (place_at l k) (placed n cs ++ tail) ≡ find place_cmp (place_at l k) tail
other kind v l k n [] tail o d = refl
other kind v l k n (c ∷ cs) tail o d =
    find_other (place_at l k) (place_at c.leaf n) c.atom (placed n cs ++ tail) (λ e. d (ap unit_at e ∙ (All-head (IsSoundField kind v) c cs o).0))
    ∙ other kind v l k n cs tail (All-tail (IsSoundField kind v) c cs o) d

own_at : (l : Leaf) (k : ℕ) (cs : List Field) (tail : List Entry) → find place_cmp (place_at l k) tail ≡ None → find place_cmp (place_at l k) (placed k cs ++ tail) ≡ atom_in l cs
own_at l k [] tail h = h
own_at l k (c ∷ cs) tail h =
    let ih : find place_cmp (place_at l k) (placed k cs ++ tail) ≡ atom_in l cs = own_at l k cs tail h in
    elim (cases_Bool (is_same_leaf c.leaf l)) [
      | inl t ↦
          let e : c.leaf ≡ l = leaf_one c.leaf l t in
          find_same (place_at l k) (place_at c.leaf k) c.atom (placed k cs ++ tail) (λ i. place_at (sym e i) k) ∙ rw t refl
      | inr n ↦
          find_other (place_at l k) (place_at c.leaf k) c.atom (placed k cs ++ tail)
          (λ e. (let t : is_same_leaf c.leaf l ≡ true = leaf_same c.leaf l (sym (ap leaf_of e)) in cc))
          ∙ ih ∙ rw n refl
    ]

own_row : (l : Leaf) (k n : ℕ) (cs : List Field) (tail : List Entry) → k ≡ n → find place_cmp (place_at l k) tail ≡ None → find place_cmp (place_at l k) (placed n cs ++ tail) ≡ atom_in l cs
own_row l k n cs tail e h = subst (λ (m : ℕ). find place_cmp (place_at l k) (placed m cs ++ tail) ≡ atom_in l cs) e (own_at l k cs tail h)

unit_differs : (u v : AttributeUnit) → is_eq (unit_cmp v u) ≡ false → u ≢ v
unit_differs u v n e =
    let t : is_eq (unit_cmp v u) ≡ true = ap is_eq (ap (unit_cmp v) e ∙ tied_itself unit_total v) in
    cc

pub differs_tie : (u v : AttributeUnit) → u ≢ v → is_eq (unit_cmp v u) ≡ false
differs_tie u v d = elim (cases_Bool (is_eq (unit_cmp v u))) [ inl t ↦ absurd (d (sym (unit_same v u t))) | inr n ↦ n ]

flat : (o : Ordering) → is_gt o ≡ false → is_gt (ordering_reverse o) ≡ false → is_eq o ≡ true
flat Less g h = cc
flat Equal g h = refl
flat Greater g h = cc

pub both_ways : (u v : AttributeUnit) → Precedes u v → Precedes v u → is_eq (unit_cmp v u) ≡ true
both_ways u v a b = flat _ b.0 (ap is_gt (sym (unit_total.antisymm u v)) ∙ a.0)

pub values_none : (u : AttributeUnit) (rs : List Row) → All (λ (s : Row). u ≢ s.unit) rs → values u rs ≡ []
values_none u [] d = refl
values_none u (r ∷ rs) d =
    let n : is_eq (unit_cmp r.unit u) ≡ false = differs_tie u r.unit (All-head (λ (s : Row). u ≢ s.unit) r rs d) in
    rw n (values_none u rs (All-tail (λ (s : Row). u ≢ s.unit) r rs d))

none_of : (kind : Kind) (l : Leaf) (k : ℕ) (last : Option (AttributeUnit × ℕ)) (rs : List Row) → All (λ (s : Row). unit_of l ≢ s.unit) rs → All (IsSoundRow kind) rs
    → find place_cmp (place_at l k) (numbered last rs) ≡ None
none_of kind l k last [] d o = refl
none_of kind l k last (r ∷ rs) d o =
    other kind r.unit l k (next_position last r.unit) r.fields (numbered (Some (r.unit, next_position last r.unit)) rs) (All-head (IsSoundRow kind) r rs o).own (All-head (λ (s : Row). unit_of l ≢ s.unit) r rs d)
    ∙ none_of kind l k (Some (r.unit, next_position last r.unit)) rs (All-tail (λ (s : Row). unit_of l ≢ s.unit) r rs d) (All-tail (IsSoundRow kind) r rs o)

pub tail_sound : (kind : Kind) (r : Row) (rs : List Row) → AreSound kind (r ∷ rs) → AreSound kind rs
tail_sound kind r rs h = record {
  full = All-tail (λ r. has_fields r ≡ true) r rs h.full;
  own = All-tail (IsSoundRow kind) r rs h.own;
  in_order = λ i j d x m. h.in_order (suc i) (suc j) d (omega arith) (omega arith);
}

pub head_sound : (kind : Kind) (r : Row) (rs : List Row) → AreSound kind (r ∷ rs) → All (λ (s : Row). Precedes r.unit s.unit) rs
head_sound kind r rs h i d m = h.in_order zero (suc i) d (omega arith) (omega arith)

-- after another unit's row there is none of this unit
pub none_later : (kind : Kind) (u : AttributeUnit) (r : Row) (rs : List Row) → AreSound kind (r ∷ rs) → Precedes u r.unit → is_eq (unit_cmp r.unit u) ≡ false → All (λ (s : Row). u ≢ s.unit) (r ∷ rs)
none_later kind u r rs h b n zero d m = unit_differs u r.unit n
none_later kind u r rs h b n (suc i) d m = λ e.
    (let back : Precedes r.unit u = subst (λ (v : AttributeUnit). Precedes r.unit v) (sym e) (head_sound kind r rs h i d (omega arith)) in
    let t : is_eq (unit_cmp r.unit u) ≡ true = both_ways u r.unit b back in
    cc)

pub next_same : (u v : AttributeUnit) (m : ℕ) → v ≡ u → is_multi_valued u.attribute ≡ true → next_position (Some (u, m)) v ≡ m + 1
next_same u v m e many =
    let s : sameb the_attribute u.attribute v.attribute ≡ true = true_same the_attribute u.attribute v.attribute (ap (λ (w : AttributeUnit). w.attribute) (sym e)) in
    let t : is_multi_valued v.attribute ≡ true = ap (λ (w : AttributeUnit). is_multi_valued w.attribute) e ∙ many in
    rw (s, t) refl

-- after a row of the unit
beyond : (kind : Kind) (l : Leaf) (m : ℕ) (rs : List Row) → AreSound kind rs → All (λ (s : Row). Precedes (unit_of l) s.unit) rs
    → ((k : ℕ) → k ≤ m → find place_cmp (place_at l k) (numbered (Some (unit_of l, m)) rs) ≡ None)
    × ((j k : ℕ) → k ≡ m + 1 + j → find place_cmp (place_at l k) (numbered (Some (unit_of l, m)) rs) ≡ atom_at l j (values (unit_of l) rs))
beyond kind l m [] h b = ((λ k le. refl), (λ j k e. refl))
beyond kind l m (r ∷ rs) h b =
    let u = unit_of l in
    let first : Precedes u r.unit = All-head (λ (s : Row). Precedes u s.unit) r rs b in
    elim (cases_Bool (is_eq (unit_cmp r.unit u))) [
      | inl t ↦
          let e : r.unit ≡ u = unit_same r.unit u t in
          let many : is_multi_valued l.attribute ≡ true = first.1 (ap is_eq (ap (unit_cmp u) e ∙ tied_itself unit_total u)) in
          let n = next_same u r.unit m e many in
          let ih = beyond kind l (m + 1) rs (tail_sound kind r rs h) (subst (λ (v : AttributeUnit). All (λ (s : Row). Precedes v s.unit) rs) e (head_sound kind r rs h)) in
          let tail = numbered (Some (u, m + 1)) rs in
          let same : numbered (Some (u, m)) (r ∷ rs) ≡ placed (m + 1) r.fields ++ tail = λ i. placed (n i) r.fields ++ numbered (Some (e i, n i)) rs in (
            (λ k le. ap (find place_cmp (place_at l k)) same ∙ far l k (m + 1) r.fields tail (λ x. absurd (omega (arith, x, le))) ∙ ih.0 k (omega (arith, le))),
            rw t (elim [
              | zero ↦ λ k x. ap (find place_cmp (place_at l k)) same ∙ own_row l k (m + 1) r.fields tail (omega (arith, x)) (ih.0 k (omega (arith, x)))
              | suc j ↦ λ k x. ap (find place_cmp (place_at l k)) same ∙ far l k (m + 1) r.fields tail (λ y. absurd (omega (arith, x, y))) ∙ ih.1 j k (omega (arith, x))
            ]),
          )
      | inr n ↦
          let none = none_later kind u r rs h first n in (
            (λ k le. none_of kind l k (Some (u, m)) (r ∷ rs) none h.own),
            (λ j k x. none_of kind l k (Some (u, m)) (r ∷ rs) none h.own ∙ sym (ap (atom_at l j) (values_none u (r ∷ rs) none))),
          )
    ]

-- after a row of another unit positions start again
turn : (kind : Kind) (l : Leaf) (v : AttributeUnit) (n : ℕ) (cs : List Field) → has_fields (record { unit = v; fields = cs }) ≡ true → All (IsSoundField kind v) cs → unit_of l ≢ v → next_position (Some (v, n)) (unit_of l) ≡ 0
turn kind l v n [] f o d = cc
turn kind l v n (c ∷ cs) f o d = elim (cases_Bool (sameb the_attribute v.attribute l.attribute)) [
  | inr s ↦ rw s refl
  | inl s ↦ elim (cases_Bool (is_multi_valued l.attribute)) [
    | inr m ↦ rw (s, m) refl
    | inl m ↦
        let own : unit_of c.leaf ≡ v = (All-head (IsSoundField kind v) c cs o).0 in
        let a : l.attribute ≡ c.leaf.attribute = sym (ap (λ (w : AttributeUnit). w.attribute) own ∙ same_true the_attribute tt _ _ s) in
        let mc : is_multi_valued c.leaf.attribute ≡ true = ap is_multi_valued (sym a) ∙ m in
        let same : unit_of l ≡ unit_of c.leaf = rw (m, mc) (λ i. record { attribute = a i; sub_attribute = None }) in
        absurd (d (same ∙ own))
  ]
]

pub find_rows : (kind : Kind) (l : Leaf) (k : ℕ) (last : Option (AttributeUnit × ℕ)) (rs : List Row) → next_position last (unit_of l) ≡ 0 → AreSound kind rs
    → find place_cmp (place_at l k) (numbered last rs) ≡ cell_at l k rs
find_rows kind l k last [] z h = refl
find_rows kind l k last (r ∷ rs) z h =
    let u = unit_of l in
    let own = All-head (IsSoundRow kind) r rs h.own in
    elim (cases_Bool (is_eq (unit_cmp r.unit u))) [
      | inl t ↦
          let e : r.unit ≡ u = unit_same r.unit u t in
          let n : next_position last r.unit ≡ 0 = ap (next_position last) e ∙ z in
          let rest = beyond kind l 0 rs (tail_sound kind r rs h) (subst (λ (v : AttributeUnit). All (λ (s : Row). Precedes v s.unit) rs) e (head_sound kind r rs h)) in
          let tail = numbered (Some (u, 0)) rs in
          let same : numbered last (r ∷ rs) ≡ placed 0 r.fields ++ tail = λ i. placed (n i) r.fields ++ numbered (Some (e i, n i)) rs in
          let go : (k : ℕ) → find place_cmp (place_at l k) (numbered last (r ∷ rs)) ≡ atom_at l k (r ∷ values u rs) = elim [
            | zero ↦ ap (find place_cmp (place_at l 0)) same ∙ own_row l 0 0 r.fields tail refl (rest.0 0 (omega arith))
            | suc j ↦ ap (find place_cmp (place_at l (suc j))) same ∙ far l (suc j) 0 r.fields tail (λ y. absurd (omega (arith, y))) ∙ rest.1 j (suc j) (omega arith)
          ] in
          rw t (go k)
      | inr n ↦
          let d = unit_differs u r.unit n in
          let ih : find place_cmp (place_at l k) (numbered (Some (r.unit, next_position last r.unit)) rs) ≡ atom_at l k (values u rs)
          = find_rows kind l k (Some (r.unit, next_position last r.unit)) rs (turn kind l r.unit (next_position last r.unit) r.fields (All-head (λ r. has_fields r ≡ true) r rs h.full) own.own d) (tail_sound kind r rs h) in
          rw n (other kind r.unit l k (next_position last r.unit) r.fields (numbered (Some (r.unit, next_position last r.unit)) rs) own.own d ∙ ih)
    ]

-- what a part has at a place is what its rows have there
pub get_cell : (c : Content) → IsPart c → AreSound c.kind (rows c) → (l : Leaf) (k : ℕ) → get c.cells (place_at l k) ≡ cell_at l k (rows c)
get_cell c p s l k =
    get-entries c.cells (place_at l k) ∙ sym (ap (find place_cmp (place_at l k)) (numbered_part c p))
    ∙ find_rows c.kind l k None (rows c) refl s
