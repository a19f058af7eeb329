-- The number of positions of an attribute, by rows, is that of the map.
use Rattle.std.proofs.Common.{◌≡◌, ◌≢◌, ℕ, zero, suc, ◌≤◌, ◌<◌, refl, sym, ◌∙◌, ap, subst, Bool, true, false, arith, List, [], ◌∷◌, length, inl, inr}
use Rattle.std.specs.Prelude.{None, Some, is_some, IsSome, All, if◌then◌else◌}
use Rattle.std.specs.List.{list_any}
use Rattle.std.specs.FinMap.{get}
use Rattle.std.specs.Ordering.{is_eq}
use Rattle.std.proofs.lemmas.Bool.{cases_Bool, cases_lt}
use Rattle.std.proofs.lemmas.List.Elements.{All-head}
use denote.Enum.Bare.{sameb, same_true, true_same}
use Rattle.scim_schema.specs.declared.Kind.{Kind}
use Rattle.scim_schema.specs.declared.Attribute.{Attribute}
use Rattle.scim_schema.specs.declared.Leaf.{Leaf}
use Rattle.scim_schema.specs.declared.Unit.{Unit as AttributeUnit}
use Rattle.scim_schema.specs.contracts.Attribute.{the_type as the_attribute}
use Rattle.scim_schema.specs.Characteristics.{is_multi_valued}
use Rattle.scim_schema.specs.Units.{unit_of, whole}
use Rattle.scim_schema.proofs.Facts.{leaf_same}
use Rattle.scim_cell.specs.declared.rows.Field.{Field}
use Rattle.scim_cell.specs.Place.{place_at, unit_cmp}
use Rattle.scim_cell.specs.Content.{Content, IsPart}
use Rattle.scim_cell.specs.Rows.{Row, rows, values, positions, has_fields, atom_in, atom_at, cell_at, IsSoundField, IsSoundRow, AreSound}
use Rattle.scim_value.specs.Positions.{HasPositions}
use Rattle.scim_value.proofs.OrderLemmas.{unit_same}
use Rattle.scim_value.proofs.TieLemmas.{attribute_of}
use Rattle.scim_value.proofs.GetLemmas.{atom_at-beyond, values_none, tail_sound, get_cell}
use Rattle.scim_value.proofs.CellLemmas.{values_skip, values_first, only_row}
use Rattle.scim_value.proofs.OfLemmas.{sound_part}

-- a value of the unit has an atom at some leaf of it
abbrev pub HasAtom : AttributeUnit → Row → Type 0
HasAtom u r = (l : Leaf) × (unit_of l ≡ u) × IsSome (atom_in l r.fields)

full_row : (kind : Kind) (u : AttributeUnit) (fs : List Field) → has_fields (record { unit = u; fields = fs }) ≡ true → All (IsSoundField kind u) fs → HasAtom u (record { unit = u; fields = fs })
full_row kind u [] full own = cc
full_row kind u (f ∷ fs) full own =
    let here : atom_in f.leaf (f ∷ fs) ≡ Some f.atom = rw (leaf_same f.leaf f.leaf refl) refl in
    (f.leaf, (All-head (IsSoundField kind u) f fs own).0, ap is_some here)

row_atom : (kind : Kind) (r : Row) (rs : List Row) → AreSound kind (r ∷ rs) → HasAtom r.unit r
row_atom kind r rs h =
    full_row kind r.unit r.fields (All-head (λ (r : Row). has_fields r ≡ true) r rs h.full) (All-head (IsSoundRow kind) r rs h.own).own

-- so each of its values has one
values_atoms : (kind : Kind) (u : AttributeUnit) (rs : List Row) → AreSound kind rs → (k : ℕ) → k < length (values u rs) → (l : Leaf) × (unit_of l ≡ u) × IsSome (atom_at l k (values u rs))
values_atoms kind u [] h k low = absurd (omega (arith, low))
values_atoms kind u (r ∷ rs) h k low =
    let rest = values_atoms kind u rs (tail_sound kind r rs h) in
    elim (cases_Bool (is_eq (unit_cmp r.unit u))) [
      | inl t ↦
          let e : r.unit ≡ u = unit_same r.unit u t in
          let first : HasAtom u r = subst (λ (v : AttributeUnit). HasAtom v r) e (row_atom kind r rs h) in
          let at : (k : ℕ) → k < suc (length (values u rs)) → (l : Leaf) × (unit_of l ≡ u) × IsSome (atom_at l k (r ∷ values u rs)) = elim [
            | zero ↦ λ low. first
            | suc j ↦ λ low. rest j (omega (arith, low))
          ] in
          let same : values u (r ∷ rs) ≡ r ∷ values u rs = rw t refl in
          subst (λ vs. (l : Leaf) × (unit_of l ≡ u) × IsSome (atom_at l k vs)) (sym same) (at k (subst (λ vs. k < length vs) same low))
      | inr n ↦
          let same : values u (r ∷ rs) ≡ values u rs = rw n refl in
          subst (λ vs. (l : Leaf) × (unit_of l ≡ u) × IsSome (atom_at l k vs)) (sym same) (rest k (subst (λ vs. k < length vs) same low))
    ]

-- where there is an atom there is a value
within : (l : Leaf) (k : ℕ) (vs : List Row) → IsSome (atom_at l k vs) → k < length vs
within l k vs some = elim (cases_lt k (length vs)) [
  | inl lt ↦ lt
  | inr ge ↦ (let none : is_some (atom_at l k vs) ≡ false = ap is_some (atom_at-beyond l k vs (omega (arith, ge))) in cc)
]

-- a value of a leaf's unit is of the leaf's attribute
of_attribute : (l m : Leaf) (r : Row) (a : Attribute) → l.attribute ≡ a → sameb the_attribute r.unit.attribute a ≡ false → unit_of l ≢ r.unit
of_attribute l m r a e off same =
    let t = true_same the_attribute r.unit.attribute a (sym (attribute_of l r.unit same) ∙ e) in cc

-- the first row of an attribute has a cell at position 0
first_cell : (kind : Kind) (a : Attribute) (rs : List Row) → AreSound kind rs → list_any (λ (r : Row). sameb the_attribute r.unit.attribute a) rs ≡ true → (l : Leaf) × (l.attribute ≡ a) × IsSome (cell_at l 0 rs)
first_cell kind a [] h some = cc
first_cell kind a (r ∷ rs) h some = elim (cases_Bool (sameb the_attribute r.unit.attribute a)) [
  | inl t ↦
      let found = row_atom kind r rs h in
      let l = found.0 in
      let e : l.attribute ≡ a = attribute_of l r.unit found.1 ∙ same_true the_attribute tt _ _ t in
      (l, e, subst (λ vs. IsSome (atom_at l 0 vs)) (sym (values_first (unit_of l) r rs found.1)) found.2)
  | inr n ↦
      let rest = first_cell kind a rs (tail_sound kind r rs h) (rw n at some) in
      (rest.0, rest.1, subst (λ vs. IsSome (atom_at rest.0 0 vs)) (sym (values_skip (unit_of rest.0) r rs (of_attribute rest.0 rest.0 r a rest.1 n))) rest.2)
]

-- and where there is a cell there is a row of the attribute
some_row : (a : Attribute) (l : Leaf) (k : ℕ) (rs : List Row) → l.attribute ≡ a → IsSome (cell_at l k rs) → list_any (λ (r : Row). sameb the_attribute r.unit.attribute a) rs ≡ true
some_row a l k [] e some = cc
some_row a l k (r ∷ rs) e some = elim (cases_Bool (sameb the_attribute r.unit.attribute a)) [
  | inl t ↦ rw t refl
  | inr n ↦ rw n (some_row a l k rs e (subst (λ vs. IsSome (atom_at l k vs)) (values_skip (unit_of l) r rs (of_attribute l l r a e n)) some))
]

-- a unit of a single-valued attribute has one value at most
pub one_value : (kind : Kind) (u : AttributeUnit) (rs : List Row) → AreSound kind rs → is_multi_valued u.attribute ≡ false → length (values u rs) ≤ 1
one_value kind u [] h single = omega arith
one_value kind u (r ∷ rs) h single = elim (cases_Bool (is_eq (unit_cmp r.unit u))) [
  | inl t ↦
      let e : r.unit ≡ u = unit_same r.unit u t in
      let none : values u rs ≡ [] = ap (λ v. values v rs) (sym e) ∙ values_none r.unit rs (only_row kind r rs h (ap (λ (v : AttributeUnit). is_multi_valued v.attribute) e ∙ single)) in
      rw (t, none) (omega arith)
  | inr n ↦ rw n (one_value kind u rs (tail_sound kind r rs h) single)
]

abbrev pub AtRows : List Row → Attribute → ℕ → Type 0
AtRows rs a k = (l : Leaf) × (l.attribute ≡ a) × IsSome (cell_at l k rs)

many_below : (kind : Kind) (a : Attribute) (rs : List Row) → AreSound kind rs → (k : ℕ) → k < length (values (whole a) rs) → AtRows rs a k
many_below kind a rs h k low =
    let found = values_atoms kind (whole a) rs h k low in
    (found.0, attribute_of found.0 (whole a) found.1, subst (λ (u : AttributeUnit). IsSome (atom_at found.0 k (values u rs))) (sym found.1) found.2)

many_within : (a : Attribute) (rs : List Row) → is_multi_valued a ≡ true → (k : ℕ) → AtRows rs a k → k < length (values (whole a) rs)
many_within a rs many k found =
    let l = found.0 in
    let m : is_multi_valued l.attribute ≡ true = ap is_multi_valued found.1 ∙ many in
    let unit : unit_of l ≡ whole a = rw m (λ i. record { attribute = found.1 i; sub_attribute = None }) in
    within l k (values (whole a) rs) (subst (λ (u : AttributeUnit). IsSome (atom_at l k (values u rs))) unit found.2)

single_below : (kind : Kind) (a : Attribute) (rs : List Row) (some : Bool) → AreSound kind rs → list_any (λ (r : Row). sameb the_attribute r.unit.attribute a) rs ≡ some → (k : ℕ) → k < (if some then 1 else 0) → AtRows rs a k
single_below kind a rs false h is k low = absurd (omega (arith, low))
single_below kind a rs true h is zero low = first_cell kind a rs h is
single_below kind a rs true h is (suc k) low = absurd (omega (arith, low))

single_within : (kind : Kind) (a : Attribute) (rs : List Row) → AreSound kind rs → is_multi_valued a ≡ false → (k : ℕ) → AtRows rs a k → k < (if list_any (λ (r : Row). sameb the_attribute r.unit.attribute a) rs then 1 else 0)
single_within kind a rs h single k found =
    let l = found.0 in
    let unit_attribute : (unit_of l).attribute ≡ a = sym (attribute_of l (unit_of l) refl) ∙ found.1 in
    let low = within l k (values (unit_of l) rs) found.2 in
    let few = one_value kind (unit_of l) rs h (ap is_multi_valued unit_attribute ∙ single) in
    rw (some_row a l k rs found.1 found.2) (omega (arith, low, few))

by_rows : (kind : Kind) (a : Attribute) (rs : List Row) (many : Bool) → AreSound kind rs → is_multi_valued a ≡ many → (k : ℕ)
    → ((k < positions a rs) → AtRows rs a k) × (AtRows rs a k → (k < positions a rs))
by_rows kind a rs true h is k = rw is ((λ low. many_below kind a rs h k low), (λ found. many_within a rs is k found))
by_rows kind a rs false h is k = rw is ((λ low. single_below kind a rs _ h refl k low), (λ found. single_within kind a rs h is k found))

few_positions : (some : Bool) → (if some then 1 else 0) ≤ 1
few_positions true = omega arith
few_positions false = omega arith

-- the count by rows is the number of positions that have cells
pub positions_filled : (c : Content) → IsPart c → (a : Attribute) → HasPositions c a (positions a (rows c))
positions_filled c part a =
    let sound = sound_part c part in
    let cell : (l : Leaf) (k : ℕ) → get c.cells (place_at l k) ≡ cell_at l k (rows c) = get_cell c part sound in record {
      filled = λ k. (
        (λ low. (let found = (by_rows c.kind a (rows c) _ sound refl k).0 low in (found.0, found.1, subst IsSome (sym (cell found.0 k)) found.2))),
        (λ found. (by_rows c.kind a (rows c) _ sound refl k).1 (found.0, found.1, subst IsSome (cell found.0 k) found.2)),
      );
      single = λ m. rw m (few_positions _);
    }

-- so is any number that equals it
pub number_filled : (c : Content) (a : Attribute) (n : ℕ) → IsPart c → n ≡ positions a (rows c) → HasPositions c a n
number_filled c a n part same = subst (HasPositions c a) (sym same) (positions_filled c part a)
