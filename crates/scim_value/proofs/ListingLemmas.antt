-- The cells of rows, attribute by attribute.
use Rattle.std.proofs.Common.{◌≡◌, ◌≢◌, ℕ, ◌+◌, ◌≤◌, ◌<◌, refl, sym, ◌∙◌, ap, subst, Bool, true, false, arith, List, [], ◌∷◌, ◌++◌, inl, inr}
use Rattle.std.specs.Prelude.{Option, None, Some, if◌then◌else◌, All}
use Rattle.std.specs.List.{flat_map}
use Rattle.std.proofs.lemmas.Bool.{cases_Bool}
use Rattle.std.proofs.lemmas.List.Elements.{All-cons, All-head, All-weaker}
use denote.Enum.Bare.{sameb, same_true}
use Rattle.std.specs.Ordering.{nat_cmp}
use Rattle.scim_schema.specs.declared.Kind.{Kind}
use Rattle.scim_schema.specs.declared.Attribute.{Attribute}
use Rattle.scim_schema.specs.declared.Leaf.{Leaf}
use Rattle.scim_schema.specs.declared.Unit.{Unit as AttributeUnit}
use Rattle.scim_schema.specs.contracts.Attribute.{the_type as the_attribute}
use Rattle.scim_schema.specs.Table.{attributes}
use Rattle.scim_schema.specs.Characteristics.{is_multi_valued}
use Rattle.scim_schema.specs.Units.{whole, unit_of}
use Rattle.scim_cell.specs.declared.rows.Field.{Field}
use Rattle.scim_cell.specs.Place.{attribute_number}
use Rattle.scim_cell.specs.Content.{Entry}
use Rattle.scim_cell.specs.Rows.{Row, next_position, numbered, values, atom_in, atom_at, cell_at, has_fields, rows, IsSoundField, IsSoundRow, Precedes, AreSound}
use Rattle.scim_value.specs.Listing.{cell_with, value_cells, values_cells, single_cells, CellsAreListed}
use Rattle.scim_value.proofs.ChainLemmas.{first_le}
use Rattle.scim_value.proofs.TieLemmas.{placed, attribute_of, zero_next}
use Rattle.scim_value.proofs.RowLemmas.{numbered_part}
use Rattle.scim_value.proofs.GetLemmas.{values_none, next_same, tail_sound, head_sound}
use Rattle.scim_value.proofs.OfLemmas.{sound_part}
use Rattle.scim_value.proofs.KeyLemmas.{In, flat_map_same, flat_map_none, flat_map_insert, leaves_by_place, attributes_ascend, leaves_ascend, in_leaves, in_kind, flat_map_leaves}
use Rattle.scim_value.proofs.CellLemmas.{fields_listed, values_skip, values_first, single_row}

-- the cells of an attribute after a row
abbrev cells_from : Option (AttributeUnit × ℕ) → List Row → Attribute → List Entry
cells_from last rs a = if is_multi_valued a then values_cells a (next_position last (whole a)) (values (whole a) rs) else single_cells a rs

if_true : {A : Type 0} (b : Bool) (x y : A) → b ≡ true → (if b then x else y) ≡ x
if_true b x y h = rw h refl

if_false : {A : Type 0} (b : Bool) (x y : A) → b ≡ false → (if b then x else y) ≡ y
if_false b x y h = rw h refl

cells_many : (last : Option (AttributeUnit × ℕ)) (rs : List Row) (a : Attribute) → is_multi_valued a ≡ true → cells_from last rs a ≡ values_cells a (next_position last (whole a)) (values (whole a) rs)
cells_many last rs a m = if_true (is_multi_valued a) (values_cells a (next_position last (whole a)) (values (whole a) rs)) (single_cells a rs) m

cells_single : (last : Option (AttributeUnit × ℕ)) (rs : List Row) (a : Attribute) → is_multi_valued a ≡ false → cells_from last rs a ≡ single_cells a rs
cells_single last rs a m = if_false (is_multi_valued a) (values_cells a (next_position last (whole a)) (values (whole a) rs)) (single_cells a rs) m

-- rows of later attributes have no values of this one
values_later : (u : AttributeUnit) (rs : List Row) → All (λ (s : Row). attribute_number u.attribute < attribute_number s.unit.attribute) rs → values u rs ≡ []
values_later u rs h = values_none u rs (λ i d b e. (
    let same = ap (λ (v : AttributeUnit). attribute_number v.attribute) e in
    omega (arith, same, h i d b)))

cells_later : (last : Option (AttributeUnit × ℕ)) (rs : List Row) (a : Attribute) → All (λ (s : Row). attribute_number a < attribute_number s.unit.attribute) rs → cells_from last rs a ≡ []
cells_later last rs a h = elim (cases_Bool (is_multi_valued a)) [
  | inl m ↦ cells_many last rs a m ∙ ap (values_cells a (next_position last (whole a))) (values_later (whole a) rs h)
  | inr m ↦ cells_single last rs a m ∙ flat_map_none (λ l. cell_with l 0 (cell_at l 0 rs)) (leaves_by_place a)
      (λ l j. (let e = in_leaves a _ l j in
      ap (λ vs. cell_with l 0 (atom_at l 0 vs)) (values_later (unit_of l) rs (subst (λ b. All (λ (s : Row). attribute_number b < attribute_number s.unit.attribute) rs) (sym e) h))))
]

-- the last row's attribute has no higher number
abbrev NotPast : Option (AttributeUnit × ℕ) → ℕ → Type 0
NotPast None n = Unit {0}
NotPast (Some last) n = attribute_number last.0.attribute ≤ n

-- positions start at 0 in a later attribute
starts : (last : Option (AttributeUnit × ℕ)) (u : AttributeUnit) (n : ℕ) → NotPast last n → n < attribute_number u.attribute → next_position last u ≡ 0
starts None u n h l = refl
starts (Some last) u n h l = elim (cases_Bool (sameb the_attribute last.0.attribute u.attribute)) [
  | inl s ↦ (let e : attribute_number last.0.attribute ≡ attribute_number u.attribute = ap attribute_number (same_true the_attribute tt _ _ s) in absurd (omega arith))
  | inr s ↦ rw s refl
]

-- a row adds nothing to later attributes
cells_skip : (last : Option (AttributeUnit × ℕ)) (r : Row) (rs : List Row) (n : ℕ) (a : Attribute) → NotPast last (attribute_number r.unit.attribute) → attribute_number r.unit.attribute < attribute_number a
    → cells_from last (r ∷ rs) a ≡ cells_from (Some (r.unit, n)) rs a
cells_skip last r rs n a h less =
    let apart : (u : AttributeUnit) → u.attribute ≡ a → u ≢ r.unit = λ u e f.
    (let same : attribute_number u.attribute ≡ attribute_number r.unit.attribute = ap (λ (v : AttributeUnit). attribute_number v.attribute) f in
    let own : attribute_number u.attribute ≡ attribute_number a = ap attribute_number e in
    omega (arith, same, own, less)) in
    elim (cases_Bool (is_multi_valued a)) [
      | inl m ↦
          let here = starts last (whole a) _ h less in
          let next = starts (Some (r.unit, n)) (whole a) (attribute_number r.unit.attribute) (omega arith) less in
          let same = values_skip (whole a) r rs (apart (whole a) refl) in
          cells_many last (r ∷ rs) a m ∙ (λ i. values_cells a (here i) (same i)) ∙ (λ i. values_cells a (sym next i) (values (whole a) rs)) ∙ sym (cells_many (Some (r.unit, n)) rs a m)
      | inr m ↦
          cells_single last (r ∷ rs) a m
          ∙ flat_map_same (λ l. cell_with l 0 (cell_at l 0 (r ∷ rs))) (λ l. cell_with l 0 (cell_at l 0 rs)) (leaves_by_place a)
          (λ l j. ap (λ vs. cell_with l 0 (atom_at l 0 vs)) (values_skip (unit_of l) r rs (apart (unit_of l) (in_leaves a _ l j))))
          ∙ sym (cells_single (Some (r.unit, n)) rs a m)
    ]

-- a unit of a multi-valued attribute is the attribute
whole_unit : (l : Leaf) (u : AttributeUnit) → unit_of l ≡ u → is_multi_valued u.attribute ≡ true → whole u.attribute ≡ u
whole_unit l u e m =
    let a : is_multi_valued l.attribute ≡ true = ap is_multi_valued (attribute_of l u e) ∙ m in
    let own : unit_of l ≡ whole l.attribute = rw a refl in
    ap (λ (v : AttributeUnit). whole v.attribute) (sym e) ∙ sym own ∙ e

-- where a row's cells are listed
field_in : (kind : Kind) (u : AttributeUnit) (c : Field) → IsSoundField kind u c → In u.attribute (attributes kind) × In c.leaf (leaves_by_place u.attribute)
field_in kind u c h = subst (λ a. In a (attributes kind) × In c.leaf (leaves_by_place a)) (attribute_of c.leaf u h.0) (in_kind kind c.leaf h.1)

pub fields_in : (kind : Kind) (r : Row) → IsSoundRow kind r → All (λ (c : Field). In c.leaf (leaves_by_place r.unit.attribute)) r.fields
fields_in kind r h = All-weaker (IsSoundField kind r.unit) (λ (c : Field). In c.leaf (leaves_by_place r.unit.attribute)) (λ c s. (field_in kind r.unit c s).1) r.fields h.own

pub row_in : (kind : Kind) (u : AttributeUnit) (cs : List Field) → has_fields (record { unit = u; fields = cs }) ≡ true → All (IsSoundField kind u) cs
    → In u.attribute (attributes kind) × (is_multi_valued u.attribute ≡ true → whole u.attribute ≡ u)
row_in kind u [] f o = cc
row_in kind u (c ∷ cs) f o =
    let own = All-head (IsSoundField kind u) c cs o in
    ((field_in kind u c own).0, whole_unit c.leaf u own.0)

-- the cells of a row's attribute begin with the row's
own_cells : (kind : Kind) (last : Option (AttributeUnit × ℕ)) (r : Row) (rs : List Row) → AreSound kind (r ∷ rs)
    → cells_from last (r ∷ rs) r.unit.attribute ≡ placed (next_position last r.unit) r.fields ++ cells_from (Some (r.unit, next_position last r.unit)) rs r.unit.attribute
own_cells kind last r rs h =
    let a = r.unit.attribute in
    let n = next_position last r.unit in
    let own = All-head (IsSoundRow kind) r rs h.own in
    let listed = fields_in kind r own in
    elim (cases_Bool (is_multi_valued a)) [
      | inl m ↦
          let u : whole a ≡ r.unit = (row_in kind r.unit r.fields (All-head (λ r. has_fields r ≡ true) r rs h.full) own.own).1 m in
          let next : n + 1 ≡ next_position (Some (r.unit, n)) (whole a) = sym (next_same r.unit (whole a) n u m) in
          let value : value_cells a n r ≡ placed n r.fields = flat_map_leaves (λ l. cell_with l n (atom_in l r.fields)) a m ∙ fields_listed n (leaves_by_place a) r.fields (leaves_ascend a) listed own.in_order in
          cells_many last (r ∷ rs) a m
          ∙ (λ i. values_cells a (next_position last (u i)) (values_first (whole a) r rs u i))
          ∙ (λ i. value i ++ values_cells a (next i) (values (whole a) rs))
          ∙ ap (λ es. placed n r.fields ++ es) (sym (cells_many (Some (r.unit, n)) rs a m))
      | inr m ↦
          let zero_at : 0 ≡ n = sym (zero_next last r.unit m) in
          cells_single last (r ∷ rs) a m ∙ single_row kind r.unit r.fields rs h m listed
          ∙ (λ i. placed (zero_at i) r.fields ++ sym (cells_single (Some (r.unit, n)) rs a m) i)
    ]

-- attributes of rows do not fall
row_le : (u v : AttributeUnit) → Precedes u v → attribute_number u.attribute ≤ attribute_number v.attribute
row_le u v h = first_le (attribute_number u.attribute) (attribute_number v.attribute) (nat_cmp (attribute_number u.attribute) (attribute_number v.attribute)) _ refl h.0

-- the cells of numbered rows are those of each attribute
rows_listed : (kind : Kind) (last : Option (AttributeUnit × ℕ)) (rs : List Row) → AreSound kind rs → All (λ (s : Row). NotPast last (attribute_number s.unit.attribute)) rs → numbered last rs ≡ flat_map (cells_from last rs) (attributes kind)
rows_listed kind last [] h b = sym (flat_map_none (cells_from last []) (attributes kind) (λ a j. cells_later last [] a (λ i d l. absurd (omega arith))))
rows_listed kind last (r ∷ rs) h b =
    let a = r.unit.attribute in
    let n = next_position last r.unit in
    let later : All (λ (s : Row). attribute_number a ≤ attribute_number s.unit.attribute) rs = All-weaker (λ (s : Row). Precedes r.unit s.unit) (λ (s : Row). attribute_number a ≤ attribute_number s.unit.attribute) (λ s p. row_le r.unit s.unit p) rs (head_sound kind r rs h) in
    let own = All-head (IsSoundRow kind) r rs h.own in
    let ih = rows_listed kind (Some (r.unit, n)) rs (tail_sound kind r rs h) later in
    ap (λ es. placed n r.fields ++ es) ih
    ∙ sym (flat_map_insert attribute_number a (placed n r.fields) (cells_from last (r ∷ rs)) (cells_from (Some (r.unit, n)) rs) (attributes kind) (attributes_ascend kind)
    (row_in kind r.unit r.fields (All-head (λ r. has_fields r ≡ true) r rs h.full) own.own).0
    (λ k j less. (let low : All (λ (s : Row). attribute_number k < attribute_number s.unit.attribute) rs = λ i d l. omega (arith, later i d l, less) in (
      cells_later last (r ∷ rs) k (All-cons (λ (s : Row). attribute_number k < attribute_number s.unit.attribute) r rs less low),
      cells_later (Some (r.unit, n)) rs k low,
    )))
    (own_cells kind last r rs h)
    (λ k j less. cells_skip last r rs n k (All-head (λ (s : Row). NotPast last (attribute_number s.unit.attribute)) r rs b) less))

pub cells_are_listed : CellsAreListed
cells_are_listed c p = sym (numbered_part c p) ∙ rows_listed c.kind None (rows c) (sound_part c p) (λ i d l. tt)
