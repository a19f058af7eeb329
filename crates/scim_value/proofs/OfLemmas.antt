-- The rows of a part's cells are sound.
use Rattle.std.proofs.Common.{◌≡◌, zero, suc, ◌<◌, refl, sym, ◌∙◌, ap, subst, eqb-true, true, false, arith, List, [], ◌∷◌, inl, inr, ◌⊎◌, get_or}
use Rattle.std.specs.Prelude.{None, Some, if◌then◌else◌, All}
use Rattle.std.proofs.lemmas.Bool.{cases_Bool}
use Rattle.std.proofs.lemmas.List.Elements.{All-head, All-nil, All-cons}
use Rattle.std.proofs.lemmas.List.Kept.{AllPairs-cons}
use denote.Enum.Bare.{same_true, tag_one}
use Rattle.std.specs.declared.cmp.Ordering.{Ordering}
use Rattle.std.specs.declared.cmp.Ordering.TheVariants.{Less, Equal, Greater}
use Rattle.std.specs.Ordering.{nat_cmp, ordering_then, is_eq, is_gt}
use Rattle.std.specs.Cmp.{ranked, tied_itself, upto}
use Rattle.std.specs.FinMap.{entries}
use Rattle.scim_schema.specs.declared.Kind.{Kind}
use Rattle.scim_schema.specs.contracts.Attribute.{the_type as the_attribute}
use Rattle.scim_schema.specs.declared.Unit.{Unit as AttributeUnit}
use Rattle.scim_schema.specs.Characteristics.{is_multi_valued}
use Rattle.scim_cell.specs.declared.places.Place.{Place}
use Rattle.scim_cell.specs.Place.{unit_cmp, place_cmp, attribute_number, sub_attribute_number}
use Rattle.scim_cell.specs.Content.{Content, Entry, IsPart, IsOfKind}
use Rattle.scim_value.specs.code.Chain.{GoesOn, IsChain}
use Rattle.scim_cell.specs.Rows.{Row, unit_at, field_of, goes_with, rows_of, numbered, rows, has_fields, IsSoundField, IsSoundRow, Precedes, AreSound}
use Rattle.scim_value.proofs.ChainLemmas.{and_first, and_second, chain-ArePartCells}
use Rattle.scim_value.proofs.OrderLemmas.{unit_total, unit_same, then_less, first_less, nat_tied}
use Rattle.scim_value.proofs.RowLemmas.{after, first_row, rows_split, with_unit, numbered_rows, numbered_part, sorted_entries}
use Rattle.scim_cell.specs.declared.rows.Field.{Field}
use Rattle.scim_value.proofs.GetLemmas.{both_ways, tail_sound, head_sound}

-- of a single-valued attribute only at position 0
abbrev pub MayStand : Entry → Type 0
MayStand e = (e.0.position ≡ 0) ⊎ (is_multi_valued e.0.attribute ≡ true)

abbrev pub Rise : Field → Field → Type 0
Rise c d = sub_attribute_number c.leaf.sub_attribute < sub_attribute_number d.leaf.sub_attribute

abbrev pub Before : Row → Row → Type 0
Before r s = Precedes r.unit s.unit

precedes_trans : (u v w : AttributeUnit) → Precedes u v → Precedes v w → Precedes u w
precedes_trans u v w a b = (
  upto unit_total u v w a.0 b.0,
  λ t. (let e : u ≡ w = unit_same u w t in
      let back : Precedes v u = subst (λ (x : AttributeUnit). Precedes v x) (sym e) b in
      let tie : v ≡ u = unit_same v u (both_ways u v a back) in
      a.1 (ap is_eq (ap (unit_cmp u) tie ∙ tied_itself unit_total u))),
)

replaced_head : (kind : Kind) (s r : Row) (rs : List Row) → AreSound kind (r ∷ rs) → r.unit ≡ s.unit → has_fields s ≡ true → IsSoundRow kind s → AreSound kind (s ∷ rs)
replaced_head kind s r rs h e f o =
    let rest = tail_sound kind r rs h in
    record {
      full = All-cons (λ r. has_fields r ≡ true) s rs f rest.full;
      own = All-cons (IsSoundRow kind) s rs o rest.own;
      in_order = AllPairs-cons Before s rs (subst (λ (v : AttributeUnit). All (λ (x : Row). Precedes v x.unit) rs) e (head_sound kind r rs h)) rest.in_order;
    }

one_more : (kind : Kind) (s r : Row) (rs : List Row) → AreSound kind (r ∷ rs) → Precedes s.unit r.unit → has_fields s ≡ true → IsSoundRow kind s → AreSound kind (s ∷ r ∷ rs)
one_more kind s r rs h b f o =
    let later : All (Before s) rs = λ i d l. precedes_trans s.unit r.unit (get_or rs i d).unit b (head_sound kind r rs h i d l) in
    record {
      full = All-cons (λ r. has_fields r ≡ true) s (r ∷ rs) f h.full;
      own = All-cons (IsSoundRow kind) s (r ∷ rs) o h.own;
      in_order = AllPairs-cons Before s (r ∷ rs) (All-cons (Before s) r rs b later) h.in_order;
    }

single_sound : (kind : Kind) (e : Entry) → IsOfKind kind e → IsSoundRow kind (record { unit = unit_at e.0; fields = field_of e ∷ [] })
single_sound kind e k = record {
  own = All-cons (IsSoundField kind (unit_at e.0)) (field_of e) [] (refl, k.0, k.1) (All-nil (IsSoundField kind (unit_at e.0)));
  in_order = λ i j d l m. absurd (omega (arith, l, m));
}

one_sound : (kind : Kind) (s : Row) → has_fields s ≡ true → IsSoundRow kind s → AreSound kind (s ∷ [])
one_sound kind s f o = record {
  full = All-cons (λ r. has_fields r ≡ true) s [] f (All-nil (λ (r : Row). has_fields r ≡ true));
  own = All-cons (IsSoundRow kind) s [] o (All-nil (IsSoundRow kind));
  in_order = λ i j d l m. absurd (omega (arith, l, m));
}

third_less : (r s t : Ordering) → r ≡ Equal → s ≡ Equal → ordering_then r (ordering_then s t) ≡ Less → t ≡ Less
third_less Equal Equal t e f h = h
third_less Less s t e f h = cc
third_less Greater s t e f h = cc
third_less Equal Less t e f h = cc
third_less Equal Greater t e f h = cc

parts_rise : (p q : Place) → p.attribute ≡ q.attribute → p.position ≡ q.position → place_cmp p q ≡ Less → sub_attribute_number p.sub_attribute < sub_attribute_number q.sub_attribute
parts_rise p q a k h =
    ranked _ _ Less (sym (third_less (nat_cmp (attribute_number p.attribute) (attribute_number q.attribute)) (nat_cmp p.position q.position) _ (nat_tied _ _ (ap attribute_number a)) (nat_tied _ _ k) h))

with_rise : (p q : Place) → goes_with p q ≡ true → place_cmp p q ≡ Less → sub_attribute_number p.sub_attribute < sub_attribute_number q.sub_attribute
unfolding goes_with
with_rise p q t h =
    parts_rise p q (same_true the_attribute tt _ _ (and_first _ _ (and_second _ _ t))) (eqb-true _ _ (and_second _ _ (and_second _ _ t))) h

stand : (b p : Place) → (p.position ≡ 0) ⊎ GoesOn b p → (p.position ≡ 0) ⊎ (is_multi_valued p.attribute ≡ true)
stand b p (inl z) = inl z
stand b p (inr g) = inr g.0

stand_zero : (e : Entry) → MayStand e → is_multi_valued e.0.attribute ≡ false → e.0.position ≡ 0
stand_zero e (inl z) n = z
stand_zero e (inr m) n = cc

not_gt : (r s : Ordering) → r ≡ Equal → is_gt s ≡ false → is_gt (ordering_then r s) ≡ false
not_gt r s e h = rw e h

unit_rises : (d e : Entry) → MayStand d → MayStand e → place_cmp d.0 e.0 ≡ Less → is_gt (unit_cmp (unit_at d.0) (unit_at e.0)) ≡ false
unit_rises d e ds es h =
    let by_attribute = nat_cmp (attribute_number d.0.attribute) (attribute_number e.0.attribute) in
    let by_part = nat_cmp (sub_attribute_number d.0.sub_attribute) (sub_attribute_number e.0.sub_attribute) in
    elim (then_less by_attribute (ordering_then (nat_cmp d.0.position e.0.position) by_part) h) [
      | inl less ↦ ap is_gt (first_less by_attribute _ less)
      | inr rest ↦ not_gt by_attribute _ rest.0
          (let t : attribute_number d.0.attribute ≡ attribute_number e.0.attribute = ranked _ _ Equal (sym rest.0) in
          let a : d.0.attribute ≡ e.0.attribute = tag_one the_attribute tt d.0.attribute e.0.attribute t in
          elim (cases_Bool (is_multi_valued d.0.attribute)) [
            | inl m ↦ let n : is_multi_valued e.0.attribute ≡ true = sym (ap is_multi_valued a) ∙ m in rw (m, n) refl
            | inr m ↦
                let n : is_multi_valued e.0.attribute ≡ false = sym (ap is_multi_valued a) ∙ m in
                let dz = stand_zero d ds m in
                let ez = stand_zero e es n in
                rw (m, n) (elim (then_less (nat_cmp d.0.position e.0.position) by_part rest.1) [
                  | inl less ↦ let l : d.0.position < e.0.position = ranked _ _ Less (sym less) in absurd (omega arith)
                  | inr same ↦ ap is_gt same.1
                ])
          ])
    ]

-- cells in order are of units in order
units_precede : (e f : Entry) → MayStand e → MayStand f → place_cmp e.0 f.0 ≡ Less → Precedes (unit_at e.0) (unit_at f.0)
units_precede e f me mf less = (
  unit_rises e f me mf less,
  λ t. elim (cases_Bool (is_multi_valued e.0.attribute)) [
    | inl m ↦ m
    | inr n ↦
        let u : unit_at e.0 ≡ unit_at f.0 = unit_same (unit_at e.0) (unit_at f.0) t in
        let a : e.0.attribute ≡ f.0.attribute = ap (λ (w : AttributeUnit). w.attribute) u in
        let nf : is_multi_valued f.0.attribute ≡ false = sym (ap is_multi_valued a) ∙ n in
        let p : (if is_multi_valued e.0.attribute then None else e.0.sub_attribute) ≡ (if is_multi_valued f.0.attribute then None else f.0.sub_attribute) = ap (λ (w : AttributeUnit). w.sub_attribute) u in
        let q : e.0.sub_attribute ≡ f.0.sub_attribute = rw (n, nf) at p in
        let k : e.0.position ≡ f.0.position = stand_zero e me n ∙ sym (stand_zero f mf nf) in
        let l : sub_attribute_number e.0.sub_attribute < sub_attribute_number f.0.sub_attribute = parts_rise e.0 f.0 a k less in
        let s : sub_attribute_number e.0.sub_attribute ≡ sub_attribute_number f.0.sub_attribute = ap sub_attribute_number q in
        absurd (omega arith)
  ],
)

more_cells : (kind : Kind) (u : AttributeUnit) (c d : Field) (ds : List Field) → IsSoundField kind u c → Rise c d → IsSoundRow kind (record { unit = u; fields = d ∷ ds }) → IsSoundRow kind (record { unit = u; fields = c ∷ d ∷ ds })
more_cells kind u c d ds o l h =
    let later : All (Rise c) ds = λ i x m. (let s : Rise d (get_or ds i x) = h.in_order zero (suc i) x (omega arith) (omega arith) in omega (arith, s, l)) in
    record {
      own = All-cons (IsSoundField kind u) c (d ∷ ds) o h.own;
      in_order = AllPairs-cons Rise c (d ∷ ds) (All-cons (Rise c) d ds l later) h.in_order;
    }

sound_rest : (kind : Kind) (e : Entry) (es : List Entry) → IsOfKind kind e → MayStand e → IsChain kind (Some e.0) es → AreSound kind (rows_of (e ∷ es))
sound_rest kind e [] k m c = one_sound kind (first_row e []) refl (single_sound kind e k)
sound_rest kind e (f ∷ fs) k m c =
    let mf : MayStand f = stand e.0 f.0 c.1.1 in
    let rest = rows_of (after (goes_with f.0) fs) in
    let first = first_row f fs in
    let ih : AreSound kind (first ∷ rest) = subst (λ (rs : List Row). AreSound kind (rs)) (rows_split f fs) (sound_rest kind f fs c.0 mf c.2) in
    elim (cases_Bool (goes_with e.0 f.0)) [
      | inl t ↦
          let u : unit_at f.0 ≡ unit_at e.0 = with_unit e.0 f.0 t in
          let row : IsSoundRow kind (record { unit = unit_at e.0; fields = first.fields }) = subst (λ (v : AttributeUnit). IsSoundRow kind (record { unit = v; fields = first.fields })) u (All-head (IsSoundRow kind) first rest ih.own) in
          let longer = more_cells kind (unit_at e.0) (field_of e) (field_of f) _ (refl, k.0, k.1) (with_rise e.0 f.0 t c.1.0) row in
          rw (t, rows_split f fs) (replaced_head kind (record { unit = unit_at e.0; fields = field_of e ∷ first.fields }) first rest ih u refl longer)
      | inr n ↦
          rw (n, rows_split f fs) (one_more kind (record { unit = unit_at e.0; fields = field_of e ∷ [] }) first rest ih (units_precede e f m mf c.1.0) refl (single_sound kind e k))
    ]

-- the rows of a chain are sound
pub sound_rows : (kind : Kind) (es : List Entry) → IsChain kind None es → AreSound kind (rows_of es)
sound_rows kind [] c = record { full = All-nil (λ (r : Row). has_fields r ≡ true); own = All-nil (IsSoundRow kind); in_order = λ i j d l m. absurd (omega (arith, m)) }
sound_rows kind (e ∷ es) c = sound_rest kind e es c.0 (inl c.1) c.2

-- a part with the rows of these cells has these cells
pub entries_back : (kind : Kind) (c : Content) (es : List Entry) → IsPart c → IsChain kind None es → rows c ≡ rows_of es → entries c.cells ≡ es
entries_back kind c es p h e =
    sym (numbered_part c p) ∙ ap (numbered None) e ∙ numbered_rows kind es h

-- the rows of every part are sound
pub sound_part : (c : Content) → IsPart c → AreSound c.kind (rows c)
sound_part c p = sound_rows c.kind (entries c.cells) (chain-ArePartCells c.kind (entries c.cells) (sorted_entries c) p)
