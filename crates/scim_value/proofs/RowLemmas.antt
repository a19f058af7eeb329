-- Values of sorted cells.
use Rattle.std.proofs.Common.{◌≡◌, ℕ, ◌+◌, ◌≤◌, ◌<◌, refl, sym, ◌∙◌, ap, subst, Bool, true, false, ◌&&◌, eqb, eqb-true, arith, List, [], ◌∷◌, ◌++◌, map, inl, inr}
use Rattle.std.specs.Prelude.{None, Some, if◌then◌else◌}
use Rattle.std.proofs.lemmas.Bool.{cases_Bool}
use denote.Enum.Bare.{sameb, same_true, true_same}
use Rattle.std.specs.FinMap.{FinMap, entries, is_sorted, same_entries_map, entries_sorted}
use Rattle.scim_schema.specs.declared.Kind.{Kind}
use Rattle.scim_cell.specs.declared.rows.Field.{Field}
use Rattle.scim_schema.specs.contracts.Attribute.{the_type as the_attribute}
use Rattle.scim_schema.specs.Characteristics.{is_multi_valued}
use Rattle.scim_cell.specs.declared.places.Place.{Place}
use Rattle.scim_cell.specs.declared.atoms.Atom.{Atom}
use Rattle.scim_cell.specs.Place.{place_cmp, place_at}
use Rattle.scim_cell.specs.Content.{Content, Entry, IsPart}
use Rattle.scim_value.specs.code.Chain.{Follows, IsChain}
use Rattle.scim_cell.specs.Rows.{Row, unit_at, field_of, goes_with, rows_of, rows, next_position, numbered}
use Rattle.scim_value.proofs.ChainLemmas.{true_from_T, unequal, and_first, and_second, position_le, less_not_after, chain-ArePartCells}

-- cells that go with one go with the same others
with_attribute : (p q : Place) → goes_with p q ≡ true → p.attribute ≡ q.attribute
unfolding goes_with
with_attribute p q h = same_true the_attribute tt _ _ (and_first _ _ (and_second _ _ h))

with_position : (p q : Place) → goes_with p q ≡ true → p.position ≡ q.position
unfolding goes_with
with_position p q h = eqb-true _ _ (and_second _ _ (and_second _ _ h))

with_many : (p q : Place) → goes_with p q ≡ true → is_multi_valued p.attribute ≡ true
unfolding goes_with
with_many p q h = and_first _ _ h

with_same : (p q r : Place) → goes_with p q ≡ true → goes_with q r ≡ goes_with p r
unfolding goes_with
with_same p q r h =
    let a : q.attribute ≡ p.attribute = sym (with_attribute p q h) in
    let k : q.position ≡ p.position = sym (with_position p q h) in
    λ i. is_multi_valued (a i) && (sameb the_attribute (a i) r.attribute && eqb (k i) r.position)

pub with_unit : (p q : Place) → goes_with p q ≡ true → unit_at q ≡ unit_at p
with_unit p q h =
    let a : q.attribute ≡ p.attribute = sym (with_attribute p q h) in
    let m : is_multi_valued p.attribute ≡ true = with_many p q h in
    let n : is_multi_valued q.attribute ≡ true = ap is_multi_valued a ∙ m in
    rw (m, n) (λ i. record { attribute = a i; sub_attribute = None })

-- the cells from the front on that pass, and those after them
abbrev pub run : (Place → Bool) → List Entry → List Entry
run t [] = []
run t (f ∷ es) = if t f.0 then f ∷ run t es else []

abbrev pub after : (Place → Bool) → List Entry → List Entry
after t [] = []
after t (f ∷ es) = if t f.0 then after t es else f ∷ es

with_fun : (p q : Place) → goes_with p q ≡ true → goes_with q ≡ goes_with p
with_fun p q h = λ i r. with_same p q r h i

abbrev pub first_row : Entry → List Entry → Row
first_row e es = record { unit = unit_at e.0; fields = field_of e ∷ map field_of (run (goes_with e.0) es) }

-- the first value and the others
pub rows_split : (e : Entry) (es : List Entry) → rows_of (e ∷ es) ≡ first_row e es ∷ rows_of (after (goes_with e.0) es)
rows_split e [] = refl
rows_split e (f ∷ es) = elim (cases_Bool (goes_with e.0 f.0)) [
  | inl t ↦ rw (t, rows_split f es, with_fun e.0 f.0 t) refl
  | inr n ↦ rw n refl
]

abbrev pub number_at : ℕ → Field → Entry
number_at k h = (place_at h.leaf k, h.atom)

-- a position that goes on is the next where it isn't the same
next_own : (kind : Kind) (b p : Place) → Follows (Some b) p → goes_with b p ≡ false → next_position (Some (unit_at b, b.position)) (unit_at p) ≡ p.position
unfolding goes_with
next_own kind b p f n =
    let go : (s m : Bool) → sameb the_attribute b.attribute p.attribute ≡ s → is_multi_valued p.attribute ≡ m → (if s && m then b.position + 1 else 0) ≡ p.position = elim [
      | true ↦ elim [
        | true ↦ λ s m.
            let a : b.attribute ≡ p.attribute = same_true the_attribute tt _ _ s in
            let mb : is_multi_valued b.attribute ≡ true = ap is_multi_valued a ∙ m in
            let e : eqb b.position p.position ≡ false = rw (mb, s) at n in
            let le : b.position ≤ p.position = position_le b p (less_not_after b p f.0) a in
            let lt : b.position < p.position = unequal _ _ e le in
            elim f.1 [ inl z ↦ absurd (omega arith) | inr g ↦ omega (arith, g.2) ]
        | false ↦ λ s m. elim f.1 [ inl z ↦ sym z | inr g ↦ (let h : is_multi_valued p.attribute ≡ true = g.0 in cc) ]
      ]
      | false ↦ λ m s q. elim f.1 [ inl z ↦ sym z | inr g ↦ (let h : sameb the_attribute b.attribute p.attribute ≡ true = true_same the_attribute b.attribute p.attribute g.1 in cc) ]
    ] in
    go (sameb the_attribute b.attribute p.attribute) (is_multi_valued p.attribute) refl refl

-- numbering gives the cells back
numbered_rest : (kind : Kind) (b : Place) (es : List Entry) → IsChain kind (Some b) es
    → map (number_at b.position) (map field_of (run (goes_with b) es)) ++ numbered (Some (unit_at b, b.position)) (rows_of (after (goes_with b) es)) ≡ es
numbered_rest kind b [] c = refl
numbered_rest kind b (f ∷ es) c = elim (cases_Bool (goes_with b f.0)) [
  | inl t ↦
      let k : b.position ≡ f.0.position = with_position b f.0 t in
      let ih = numbered_rest kind f.0 es c.2 in
      let same = with_fun b f.0 t in
      let unit = with_unit b f.0 t in
      let ih2 : map (number_at f.0.position) (map field_of (run (goes_with b) es)) ++ numbered (Some (unit_at b, f.0.position)) (rows_of (after (goes_with b) es)) ≡ es
      = sym (λ i. map (number_at f.0.position) (map field_of (run (same i) es)) ++ numbered (Some (unit i, f.0.position)) (rows_of (after (same i) es))) ∙ ih in
      rw t
      (subst (λ (n : ℕ). map (number_at n) (field_of f ∷ map field_of (run (goes_with b) es)) ++ numbered (Some (unit_at b, n)) (rows_of (after (goes_with b) es)) ≡ f ∷ es)
      (sym k) (ap (λ xs. f ∷ xs) ih2))
  | inr n ↦
      let k = next_own kind b f.0 c.1 n in
      rw (n, rows_split f es)
      (subst (λ (n : ℕ). map (number_at n) (field_of f ∷ map field_of (run (goes_with f.0) es)) ++ numbered (Some (unit_at f.0, n)) (rows_of (after (goes_with f.0) es)) ≡ f ∷ es)
      (sym k) (ap (λ xs. f ∷ xs) (numbered_rest kind f.0 es c.2)))
]

pub numbered_rows : (kind : Kind) (es : List Entry) → IsChain kind None es → numbered None (rows_of es) ≡ es
numbered_rows kind [] c = refl
numbered_rows kind (f ∷ es) c =
    rw (rows_split f es)
    (subst (λ (n : ℕ). map (number_at n) (field_of f ∷ map field_of (run (goes_with f.0) es)) ++ numbered (Some (unit_at f.0, n)) (rows_of (after (goes_with f.0) es)) ≡ f ∷ es)
    c.1 (ap (λ xs. f ∷ xs) (numbered_rest kind f.0 es c.2)))

pub sorted_map : (m : FinMap place_cmp Atom) → is_sorted place_cmp (entries m) ≡ true
sorted_map m = true_from_T _ (entries_sorted m)

pub sorted_entries : (c : Content) → is_sorted place_cmp (entries c.cells) ≡ true
sorted_entries c = sorted_map c.cells

pub numbered_part : (c : Content) → IsPart c → numbered None (rows c) ≡ entries c.cells
numbered_part c h = numbered_rows c.kind (entries c.cells) (chain-ArePartCells c.kind (entries c.cells) (true_from_T _ (entries_sorted c.cells)) h)

-- parts of equal rows are equal
pub same_part : (c d : Content) → IsPart c → IsPart d → c.kind ≡ d.kind → c.id ≡ d.id → rows c ≡ rows d → c ≡ d
same_part c d p q kinds ids e =
    let es : entries c.cells ≡ entries d.cells = sym (numbered_part c p) ∙ ap (numbered None) e ∙ numbered_part d q in
    let cells : c.cells ≡ d.cells = same_entries_map c.cells d.cells es in
    λ i. record { kind = kinds i; id = ids i; cells = cells i }
