-- The cells of rows, leaf by leaf.
use Rattle.std.proofs.Common.{◌≡◌, ◌≢◌, ℕ, zero, suc, ◌≤◌, ◌<◌, refl, sym, ◌∙◌, ap, true, false, arith, List, [], ◌∷◌, ◌++◌, inl, inr}
use Rattle.std.specs.Prelude.{None, All, AllPairs}
use Rattle.std.specs.List.{flat_map}
use Rattle.std.proofs.lemmas.Bool.{cases_Bool}
use Rattle.std.proofs.lemmas.List.Elements.{All-head, All-tail}
use Rattle.std.specs.Ordering.{nat_cmp, is_eq, is_lt}
use Rattle.std.specs.Cmp.{tied_itself}
use Rattle.scim_schema.specs.declared.Kind.{Kind}
use Rattle.scim_schema.specs.declared.Leaf.{Leaf}
use Rattle.scim_schema.specs.declared.Unit.{Unit as AttributeUnit}
use Rattle.scim_schema.specs.Characteristics.{is_multi_valued}
use Rattle.scim_schema.specs.Units.{unit_of, is_same_leaf}
use Rattle.scim_schema.proofs.Facts.{leaf_one, leaf_same}
use Rattle.scim_cell.specs.declared.rows.Field.{Field}
use Rattle.scim_cell.specs.Place.{unit_cmp, place_at, attribute_number, sub_attribute_number}
use Rattle.scim_cell.specs.Content.{Entry}
use Rattle.scim_cell.specs.Rows.{Row, values, atom_in, atom_at, cell_at, has_fields, IsSoundField, IsSoundRow, AreSound}
use Rattle.scim_value.specs.Listing.{cell_with, single_cells}
use Rattle.scim_value.proofs.OrderLemmas.{unit_total, nat_less, nat_tied, second_less}
use Rattle.scim_value.proofs.SoundLemmas.{precedes_less}
use Rattle.scim_value.proofs.TieLemmas.{placed, many_of_two, attribute_of}
use Rattle.scim_value.proofs.GetLemmas.{values_none, none_later, differs_tie, head_sound}
use Rattle.scim_value.proofs.OfLemmas.{Rise}
use Rattle.scim_value.proofs.KeyLemmas.{In, ascends, flat_map_none, flat_map_insert, leaf_number, leaves_by_place, leaves_ascend, in_leaves}

-- leaves with different numbers differ
other_leaf : (l m : Leaf) → (leaf_number l ≡ leaf_number m → ⊥) → is_same_leaf m l ≡ false
other_leaf l m d = elim (cases_Bool (is_same_leaf m l)) [
  | inl t ↦ absurd (d (ap leaf_number (sym (leaf_one m l t))))
  | inr n ↦ n
]

-- fields with higher numbers have no atom of a leaf
atom_none : (l : Leaf) (cs : List Field) → All (λ (c : Field). leaf_number l < leaf_number c.leaf) cs → atom_in l cs ≡ None
atom_none l [] h = refl
atom_none l (c ∷ cs) h =
    let less : leaf_number l < leaf_number c.leaf = All-head (λ (c : Field). leaf_number l < leaf_number c.leaf) c cs h in
    let n : is_same_leaf c.leaf l ≡ false = other_leaf l c.leaf (λ e. omega arith) in
    rw n (atom_none l cs (All-tail (λ (c : Field). leaf_number l < leaf_number c.leaf) c cs h))

-- fields in order are what leaves in order find in them
pub fields_listed : (k : ℕ) (ls : List Leaf) (cs : List Field) → ascends leaf_number ls ≡ true → All (λ (c : Field). In c.leaf ls) cs → AllPairs Rise cs → flat_map (λ l. cell_with l k (atom_in l cs)) ls ≡ placed k cs
fields_listed k ls [] a i r = flat_map_none (λ l. cell_with l k (atom_in l [])) ls (λ l j. refl)
fields_listed k ls (c ∷ cs) a i r =
    let later : All (Rise c) cs = λ j d b. r zero (suc j) d (omega arith) (omega arith) in
    let ih : flat_map (λ l. cell_with l k (atom_in l cs)) ls ≡ placed k cs = fields_listed k ls cs a (All-tail (λ (c : Field). In c.leaf ls) c cs i) (λ i j d l m. r (suc i) (suc j) d (omega arith) (omega arith)) in
    let none : (l : Leaf) → leaf_number l ≤ leaf_number c.leaf → atom_in l cs ≡ None = λ l le. atom_none l cs (λ j d b. omega (arith, later j d b, le)) in
    flat_map_insert leaf_number c.leaf ((place_at c.leaf k, c.atom) ∷ []) (λ l. cell_with l k (atom_in l (c ∷ cs))) (λ l. cell_with l k (atom_in l cs)) ls a (All-head (λ (c : Field). In c.leaf ls) c cs i)
    (λ l j less. (let n : is_same_leaf c.leaf l ≡ false = other_leaf l c.leaf (λ e. omega (arith, e, less)) in
    let o : atom_in l cs ≡ None = none l (omega (arith, less)) in
    (rw (n, o) refl, rw o refl)))
    (let t : is_same_leaf c.leaf c.leaf ≡ true = leaf_same c.leaf c.leaf refl in
    let o : atom_in c.leaf cs ≡ None = none c.leaf (omega arith) in
    rw (t, o) refl)
    (λ l j less. (let n : is_same_leaf c.leaf l ≡ false = other_leaf l c.leaf (λ e. omega (arith, e, less)) in rw n refl))
    ∙ ap (λ es. (place_at c.leaf k, c.atom) ∷ es) ih

-- a row of another unit is no value of this one, and a row of this one is the first
pub values_skip : (u : AttributeUnit) (r : Row) (rs : List Row) → u ≢ r.unit → values u (r ∷ rs) ≡ values u rs
values_skip u r rs d = let n = differs_tie u r.unit d in rw n refl

pub values_first : (u : AttributeUnit) (r : Row) (rs : List Row) → u ≡ r.unit → values u (r ∷ rs) ≡ r ∷ values u rs
values_first u r rs e =
    let t : is_eq (unit_cmp r.unit u) ≡ true = ap is_eq (ap (unit_cmp r.unit) e ∙ tied_itself unit_total r.unit) in
    rw t refl

-- the unit of a leaf of a single-valued attribute is the leaf
abbrev pub leaf_unit : Leaf → AttributeUnit
leaf_unit l = record { attribute = l.attribute; sub_attribute = l.sub_attribute }

pub unit_single : (l : Leaf) → is_multi_valued l.attribute ≡ false → unit_of l ≡ leaf_unit l
unit_single l m = rw m refl

-- such units stand in order of their leaves
leaf_less : (l k : Leaf) → l.attribute ≡ k.attribute → leaf_number l < leaf_number k → is_lt (unit_cmp (leaf_unit l) (leaf_unit k)) ≡ true
leaf_less l k e less = ap is_lt (second_less (nat_cmp (attribute_number l.attribute) (attribute_number k.attribute)) _ (nat_tied _ _ (ap attribute_number e)) (nat_less _ _ less))

-- no other row is of a single-valued row's unit
pub only_row : (kind : Kind) (r : Row) (rs : List Row) → AreSound kind (r ∷ rs) → is_multi_valued r.unit.attribute ≡ false → All (λ (s : Row). r.unit ≢ s.unit) rs
only_row kind r rs h m i d b e =
    let tie : is_eq (unit_cmp r.unit _) ≡ true = ap is_eq (ap (unit_cmp r.unit) (sym e) ∙ tied_itself unit_total r.unit) in
    let many = (head_sound kind r rs h i d b).1 tie in
    cc

-- the cells of a single-valued attribute at one row more
pub single_row : (kind : Kind) (u : AttributeUnit) (cs : List Field) (rs : List Row) → AreSound kind (record { unit = u; fields = cs } ∷ rs) → is_multi_valued u.attribute ≡ false → All (λ (c : Field). In c.leaf (leaves_by_place u.attribute)) cs
    → single_cells u.attribute (record { unit = u; fields = cs } ∷ rs) ≡ placed 0 cs ++ single_cells u.attribute rs
single_row kind u [] rs h m i = let none = All-head (λ r. has_fields r ≡ true) (record { unit = u; fields = [] }) rs h.full in cc
single_row kind u (c ∷ d ∷ cs) rs h m i =
    let own = All-head (IsSoundRow kind) (record { unit = u; fields = c ∷ d ∷ cs }) rs h.own in
    let first = All-head (IsSoundField kind u) c (d ∷ cs) own.own in
    let second = All-head (IsSoundField kind u) d cs (All-tail (IsSoundField kind u) c (d ∷ cs) own.own) in
    let many = many_of_two c.leaf d.leaf (first.0 ∙ sym second.0) (own.in_order zero (suc zero) c (omega arith) (omega arith)) in
    let a = attribute_of c.leaf u first.0 in
    let one : is_multi_valued c.leaf.attribute ≡ false = ap is_multi_valued a ∙ m in
    cc
single_row kind u (c ∷ []) rs h m i =
    let r : Row = record { unit = u; fields = c ∷ [] } in
    let own : unit_of c.leaf ≡ u = (All-head (IsSoundField kind u) c [] (All-head (IsSoundRow kind) r rs h.own).own).0 in
    let a = attribute_of c.leaf u own in
    let unit : u ≡ leaf_unit c.leaf = sym own ∙ unit_single c.leaf (ap is_multi_valued a ∙ m) in
    let of : (l : Leaf) → In l (leaves_by_place u.attribute) → unit_of l ≡ leaf_unit l = λ l j. unit_single l (ap is_multi_valued (in_leaves u.attribute _ l j) ∙ m) in
    let apart : (l : Leaf) → In l (leaves_by_place u.attribute) → (leaf_number l ≡ leaf_number c.leaf → ⊥) → unit_of l ≢ u
    = λ l j d e. d (ap (λ (v : AttributeUnit). sub_attribute_number v.sub_attribute) (sym (of l j) ∙ e ∙ unit)) in
    let before : (l : Leaf) → In l (leaves_by_place u.attribute) → leaf_number l < leaf_number c.leaf → All (λ (s : Row). unit_of l ≢ s.unit) (r ∷ rs)
    = λ l j less. none_later kind (unit_of l) r rs h
    (precedes_less (unit_of l) u ((λ i. is_lt (unit_cmp (of l j i) (unit i))) ∙ leaf_less l c.leaf (in_leaves u.attribute _ l j ∙ sym a) less))
    (differs_tie (unit_of l) u (apart l j (λ e. omega (arith, e, less)))) in
    let found : Leaf → List Row → List Entry = λ l vs. cell_with l 0 (atom_at l 0 vs) in
    flat_map_insert leaf_number c.leaf ((place_at c.leaf 0, c.atom) ∷ []) (λ l. cell_with l 0 (cell_at l 0 (r ∷ rs))) (λ l. cell_with l 0 (cell_at l 0 rs)) (leaves_by_place u.attribute) (leaves_ascend u.attribute)
    (All-head (λ (c : Field). In c.leaf (leaves_by_place u.attribute)) c [] i)
    (λ l j less. (
      ap (found l) (values_none (unit_of l) (r ∷ rs) (before l j less)),
      ap (found l) (values_none (unit_of l) rs (All-tail (λ (s : Row). unit_of l ≢ s.unit) r rs (before l j less))),
    ))
    (let t : is_same_leaf c.leaf c.leaf ≡ true = leaf_same c.leaf c.leaf refl in
    let none : values (unit_of c.leaf) rs ≡ [] = ap (λ v. values v rs) own ∙ values_none u rs (only_row kind r rs h m) in
    let here : found c.leaf (r ∷ values (unit_of c.leaf) rs) ≡ (place_at c.leaf 0, c.atom) ∷ [] = rw t refl in
    ap (found c.leaf) (values_first (unit_of c.leaf) r rs own) ∙ here ∙ ap (λ vs. (place_at c.leaf 0, c.atom) ∷ found c.leaf vs) (sym none))
    (λ l j less. ap (found l) (values_skip (unit_of l) r rs (apart l j (λ e. omega (arith, e, less)))))
