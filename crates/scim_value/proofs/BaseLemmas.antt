-- A part with another cell changed has the same at a leaf of a single-valued attribute.
use Rattle.std.proofs.Common.{◌≡◌, ◌≢◌, ℕ, refl, sym, ◌∙◌, ap, subst, Bool, true, false, List, [], ◌∷◌, filter, inl, inr}
use Rattle.std.specs.Prelude.{Option, None, Some, if◌then◌else◌, cond}
use Rattle.std.specs.FinMap.{entries, get, get-insert}
use Rattle.std.specs.Ordering.{is_eq, eq_by_cmp}
use Rattle.std.proofs.lemmas.Bool.{cases_Bool}
use Rattle.scim_schema.specs.declared.Attribute.TheVariants.{Meta}
use Rattle.scim_schema.specs.declared.SubAttribute.TheVariants.{Location}
use Rattle.scim_schema.specs.declared.Leaf.{Leaf}
use Rattle.scim_schema.specs.declared.Unit.{Unit as AttributeUnit}
use Rattle.scim_schema.specs.Characteristics.{is_multi_valued}
use Rattle.scim_schema.specs.Units.{unit_of, leaf_at, is_same_leaf}
use Rattle.scim_schema.proofs.Facts.{leaf_one, leaf_same}
use Rattle.scim_cell.specs.declared.atoms.Atom.{Atom}
use Rattle.scim_cell.specs.declared.places.Place.{Place}
use Rattle.scim_cell.specs.Place.{place_cmp, place_at, leaf_of}
use Rattle.scim_cell.specs.Content.{Content, Entry, IsPart}
use Rattle.scim_cell.specs.Rows.{Row, unit_at, field_of, goes_with, is_led, led, rows_of, rows, values, atom_at, cell_at, content, AreSound}
use Rattle.scim_value.specs.Changes.{with_cell, without_cell}
use Rattle.scim_value.specs.Resource.{first_at, HasBase}
use Rattle.scim_value.proofs.PlaceLemmas.{place_total, place_same}
use Rattle.scim_value.proofs.OrderLemmas.{eq_is}
use Rattle.scim_value.proofs.CellLemmas.{values_skip, values_first, leaf_unit, unit_single}
use Rattle.scim_value.proofs.CloseLemmas.{kept_sound}
use Rattle.scim_value.proofs.RemoveLemmas.{is_other, entries-remove}
use Rattle.scim_value.proofs.RowLemmas.{first_row, after, rows_split, with_unit}
use Rattle.scim_value.proofs.TieLemmas.{attribute_of, rows_content, part_content}
use Rattle.scim_value.proofs.GetLemmas.{get_cell}
use Rattle.scim_value.proofs.OfLemmas.{sound_part}

-- the atom of the first cell of a leaf
abbrev pub first_of : Leaf → List Entry → Option Atom
first_of l [] = None
first_of l (e ∷ es) = if is_same_leaf (leaf_of e.0) l then Some e.1 else first_of l es

-- a leaf of a single-valued attribute has a unit of its own
own_unit : (l m : Leaf) → is_multi_valued l.attribute ≡ false → unit_of l ≡ unit_of m → m ≡ l
own_unit l m single e =
    let a : l.attribute ≡ m.attribute = attribute_of l (unit_of m) e ∙ sym (attribute_of m (unit_of m) refl) in
    let same : leaf_unit l ≡ leaf_unit m = sym (unit_single l single) ∙ e ∙ unit_single m (ap is_multi_valued (sym a) ∙ single) in
    sym (λ i. record { attribute = (same i).attribute; sub_attribute = (same i).sub_attribute })

-- a cell of another unit makes no row of this one
led_other : (u : AttributeUnit) (e : Entry) (b : Bool) (r : Row) (rs : List Row) → u ≢ unit_at e.0 → (b ≡ true → u ≢ r.unit) → values u (led b e (r ∷ rs)) ≡ values u (r ∷ rs)
led_other u e true r rs other first =
    values_skip u (record { unit = unit_at e.0; fields = field_of e ∷ r.fields }) rs other ∙ sym (values_skip u r rs (first refl))
led_other u e false r rs other first = values_skip u (record { unit = unit_at e.0; fields = field_of e ∷ [] }) (r ∷ rs) other

values_led : (u : AttributeUnit) (e : Entry) (es : List Entry) → u ≢ unit_at e.0 → values u (rows_of (e ∷ es)) ≡ values u (rows_of es)
values_led u e [] other = values_skip u (record { unit = unit_at e.0; fields = field_of e ∷ [] }) [] other
values_led u e (f ∷ es) other =
    let split = rows_split f es in
    ap (λ rs. values u (led (goes_with e.0 f.0) e rs)) split
    ∙ led_other u e (goes_with e.0 f.0) (first_row f es) (rows_of (after (goes_with f.0) es)) other (λ t same. other (same ∙ with_unit e.0 f.0 t))
    ∙ ap (values u) (sym split)

-- no cell goes with one of a single-valued attribute
alone : (e : Entry) (es : List Entry) → is_multi_valued e.0.attribute ≡ false → is_led e es ≡ false
unfolding goes_with
alone e [] single = refl
alone e (f ∷ es) single = rw single refl

-- what rows have at a leaf of a single-valued attribute is the first cell of the leaf
pub rows_first : (l : Leaf) (es : List Entry) → is_multi_valued l.attribute ≡ false → cell_at l 0 (rows_of es) ≡ first_of l es
rows_first l [] single = refl
rows_first l (e ∷ es) single = elim (cases_Bool (is_same_leaf (leaf_of e.0) l)) [
  | inl t ↦
      let same : leaf_of e.0 ≡ l = leaf_one (leaf_of e.0) l t in
      let alone_is = alone e es (ap (λ (m : Leaf). is_multi_valued m.attribute) same ∙ single) in
      let row : Row = record { unit = unit_at e.0; fields = field_of e ∷ [] } in
      let head : rows_of (e ∷ es) ≡ row ∷ rows_of es = ap (λ b. led b e (rows_of es)) alone_is in
      ap (cell_at l 0) head ∙ ap (atom_at l 0) (values_first (unit_of l) row (rows_of es) (ap unit_of (sym same))) ∙ rw t refl
  | inr n ↦
      let other : unit_of l ≢ unit_at e.0 = λ u. (let t = leaf_same (leaf_of e.0) l (own_unit l (leaf_of e.0) single u) in cc) in
      ap (atom_at l 0) (values_led (unit_of l) e es other) ∙ rows_first l es single ∙ rw n refl
]

-- cells of another leaf may go
first_filter : (l : Leaf) (k : Place) (es : List Entry) → leaf_of k ≢ l → first_of l (filter (is_other k) es) ≡ first_of l es
first_filter l k [] other = refl
first_filter l k (e ∷ es) other =
    let ih = first_filter l k es other in
    elim (cases_Bool (is_eq (place_cmp e.0 k))) [
      | inl t ↦
          let same : e.0 ≡ k = place_same e.0 k (eq_is _ t) in
          elim (cases_Bool (is_same_leaf (leaf_of e.0) l)) [
            | inl own ↦ absurd (other (ap leaf_of (sym same) ∙ leaf_one (leaf_of e.0) l own))
            | inr off ↦ rw (t, off) ih
          ]
      | inr n ↦ rw (n, ih) refl
    ]

-- a leaf of a single-valued attribute keeps what it has where a cell of another leaf goes
pub first_without : (m l : Leaf) (k : ℕ) (c : Content) → IsPart c → is_multi_valued m.attribute ≡ false → l ≢ m → first_at m (without_cell l k c) ≡ first_at m c
first_without m l k c part single other =
    let p = place_at l k in
    let es = filter (is_other p) (entries c.cells) in
    let rs = rows_of es in
    let sound : AreSound c.kind rs = kept_sound (is_other p) c part in
    let d = content c.kind c.id rs in
    let valid : IsPart d = part_content c.kind c.id rs sound in
    let own : rows d ≡ rs = rows_content c.kind c.id rs sound in
    ap (λ (xs : List Entry). first_at m (content c.kind c.id (rows_of xs))) (entries-remove c.cells p)
    ∙ get_cell d valid (sound_part d valid) m 0 ∙ ap (cell_at m 0) own ∙ rows_first m es single ∙ first_filter m p (entries c.cells) other
    ∙ sym (rows_first m (entries c.cells) single) ∙ sym (get_cell c part (sound_part c part) m 0)

-- and where a cell of another leaf is put in
pub first_with : (m l : Leaf) (k : ℕ) (a : Atom) (c : Content) → l ≢ m → first_at m (with_cell l k a c) ≡ first_at m c
first_with m l k a c other =
    let p = place_at l k in
    let q = place_at m 0 in
    let apart : eq_by_cmp place_cmp q p ≡ false = elim (cases_Bool (eq_by_cmp place_cmp q p)) [
      | inl t ↦ absurd (other (sym (ap leaf_of (place_same q p (eq_is _ t)))))
      | inr n ↦ n
    ] in
    get-insert place_total c.cells p a q ∙ ap (λ b. cond b (Some a) (get c.cells q)) apart

-- so the base stays where another cell than `meta.location` is changed
pub base_with : (base : List ℕ) (l : Leaf) (k : ℕ) (a : Atom) (c r : Content) → r ≡ with_cell l k a c → l ≢ leaf_at Meta Location → HasBase base c → HasBase base r
base_with base l k a c r is other has =
    subst (λ (x : Content). HasBase base x) (sym is) (first_with (leaf_at Meta Location) l k a c other ∙ has)

pub base_without : (base : List ℕ) (l : Leaf) (k : ℕ) (c r : Content) → IsPart c → r ≡ without_cell l k c → l ≢ leaf_at Meta Location → HasBase base c → HasBase base r
base_without base l k c r part is other has =
    subst (λ (x : Content). HasBase base x) (sym is) (first_without (leaf_at Meta Location) l k c part refl other ∙ has)
