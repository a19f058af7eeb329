-- A change of nothing that a client may see, cell by cell.
use Rattle.std.proofs.Common.{◌≡◌, ◌<◌, ◌⊎◌, refl, sym, ◌∙◌, ap, ap₂, subst, ℕ, zero, suc, Bool, true, false, List, [], ◌∷◌, map, filter, inl, inr, arith, if◌then◌else◌}
use Rattle.std.specs.Prelude.{All, AllPairs, Option, None, Some, not, ◌&&◌, ◌||◌}
use Rattle.std.specs.List.{list_any}
use Rattle.std.specs.Ordering.{is_eq}
use denote.Enum.Bare.{sameb}
use Rattle.std.proofs.lemmas.Bool.{cases_Bool, and_parts, or_parts}
use Rattle.std.proofs.lemmas.List.Elements.{All-head, All-tail, All-nil, All-filter, All-weaker}
use Rattle.std.proofs.lemmas.List.Kept.{AllPairs-filter}
use mathlib.Core.Path.{fun_ext}
use Rattle.scim_schema.specs.declared.Kind.{Kind}
use Rattle.scim_schema.specs.declared.Attribute.TheVariants.{Groups}
use Rattle.scim_schema.specs.declared.Op.TheVariants.{Read}
use Rattle.scim_schema.specs.contracts.Kind.{the_type as the_kind}
use Rattle.scim_schema.specs.Characteristics.{is_multi_valued}
use Rattle.scim_schema.specs.declared.Leaf.{Leaf}
use Rattle.scim_schema.specs.declared.Unit.{Unit as AttributeUnit}
use Rattle.scim_schema.specs.Mutability.{is_write_only}
use Rattle.scim_schema.specs.Units.{unit_of, is_same_attribute, is_same_leaf}
use Rattle.scim_schema.proofs.Facts.{leaf_one, leaf_same}
use Rattle.scim_cell.specs.declared.atoms.Atom.{Atom}
use Rattle.scim_cell.specs.declared.rows.Field.{Field}
use Rattle.scim_cell.specs.Content.{Content}
use Rattle.scim_cell.specs.Place.{sub_attribute_number, unit_cmp}
use Rattle.scim_cell.specs.Rows.{Row, Test, by_leaf, rows, content, values, has_fields, restricted, restricted_row, atom_in, atom_at, cell_at, IsSoundField, IsValue, AreSound}
use Rattle.scim_cell.proofs.Facts.{PartsRise}
use Rattle.scim_filter.specs.Truth.{truth_in_value}
use Rattle.scim_value.specs.Resource.{IsResource}
use Rattle.scim_value.proofs.Facts.{sound_part}
use Rattle.scim_policy.specs.Control.{control, is_named_in, is_unique}
use Rattle.scim_policy.specs.declared.rules.Decision.{Decision}
use Rattle.scim_policy.specs.Fits.{covers_in_part, covers_partly, filtered_on}
use Rattle.scim_policy.specs.Patterns.{decide_in, decided_for, pattern_rules}
use Rattle.scim_policy.specs.Rules.{FilteredPath, KindPaths, Rule}
use Rattle.scim_policy.proofs.Facts.{patterns_same, undivided_pattern}
use Rattle.scim_view.specs.View.{Viewer, may_read, may_be_seen, visible, visible_by}
use Rattle.scim_change.proofs.Facts.{values_fit}
use Rattle.scim_noninterference.specs.Cells.{IsHiddenAt, has_filter_on, has_value_filter, is_filter_on}
use Rattle.scim_noninterference.specs.Laws.{HiddenCellsAreQuiet}
use Rattle.scim_noninterference.proofs.UnitLemmas.{same_restricted, attributes_same}
use Rattle.scim_noninterference.proofs.RowLemmas.{restricted_kept}
use Rattle.scim_noninterference.proofs.StoreLemmas.{may_see, reading_same}

-- ---- the fields of a value, by the atoms of their leaves

-- a leaf's number among those of its attribute
abbrev number : Leaf → ℕ
number l = sub_attribute_number l.sub_attribute

-- two leaves are two, whichever comes first
other_way : (l m : Leaf) → is_same_leaf l m ≡ false → is_same_leaf m l ≡ false
other_way l m other = elim (cases_Bool (is_same_leaf m l)) [
  | inl same ↦ (let back : is_same_leaf l m ≡ true = leaf_same l m (sym (leaf_one m l same)) in cc)
  | inr n ↦ n
]

-- what stands at the leaf of the first field, and at another one
first_atom : (l : Leaf) (f : Field) (fs : List Field) → is_same_leaf f.leaf l ≡ true → atom_in l (f ∷ fs) ≡ Some f.atom
first_atom l f fs same = rw same refl

later_atom : (l : Leaf) (f : Field) (fs : List Field) → is_same_leaf f.leaf l ≡ false → atom_in l (f ∷ fs) ≡ atom_in l fs
later_atom l f fs other = rw other refl

-- of fields that are kept by their leaves, the atom of a leaf is that from before if the leaf is kept, and none otherwise
kept_atom : (keep : Leaf → Bool) (l : Leaf) (fs : List Field) → atom_in l (filter (λ (f : Field). keep f.leaf) fs) ≡ (if keep l then atom_in l fs else None)
kept_atom keep l [] = elim (cases_Bool (keep l)) [
  | inl t ↦ rw t refl
  | inr n ↦ rw n refl
]
kept_atom keep l (f ∷ fs) = elim (cases_Bool (is_same_leaf f.leaf l)) [
  | inl same ↦ elim (cases_Bool (keep l)) [
    | inl t ↦ (let own : keep f.leaf ≡ true = ap keep (leaf_one f.leaf l same) ∙ t in rw (t, own, same) refl)
    | inr n ↦ (let own : keep f.leaf ≡ false = ap keep (leaf_one f.leaf l same) ∙ n in rw own (kept_atom keep l fs ∙ rw n refl))
  ]
  | inr other ↦ elim (cases_Bool (keep f.leaf)) [
    | inl t ↦ rw (t, other) (kept_atom keep l fs)
    | inr n ↦ rw (n, other) (kept_atom keep l fs)
  ]
]

-- fields behind another have an atom of none but a leaf behind it
behind : (g : Field) (l : Leaf) (fs : List Field) → All (PartsRise g) fs → (number g.leaf < number l) ⊎ (atom_in l fs ≡ None)
behind g l [] rise = inr refl
behind g l (f ∷ fs) rise = elim (cases_Bool (is_same_leaf f.leaf l)) [
  | inl same ↦ inl (subst (λ (m : Leaf). number g.leaf < number m) (leaf_one f.leaf l same) (All-head (PartsRise g) f fs rise))
  | inr other ↦ rw other (behind g l fs (All-tail (PartsRise g) f fs rise))
]

found_behind : (g : Field) (l : Leaf) (fs : List Field) (x : Atom) → All (PartsRise g) fs → atom_in l fs ≡ Some x → number g.leaf < number l
found_behind g l fs x rise there = elim (behind g l fs rise) [
  | inl less ↦ less
  | inr none ↦ cc
]

-- so none of its own leaf
none_behind : (g : Field) (l : Leaf) (fs : List Field) → All (PartsRise g) fs → is_same_leaf g.leaf l ≡ true → atom_in l fs ≡ None
none_behind g l fs rise same = elim (behind g l fs rise) [
  | inl less ↦ (let tied : number g.leaf ≡ number l = ap (λ (m : Leaf). number m) (leaf_one g.leaf l same) in absurd (omega (arith, less, tied)))
  | inr none ↦ none
]

-- the first of fields in order stands before the others, and those are in order
rise_head : (f : Field) (fs : List Field) → AllPairs PartsRise (f ∷ fs) → All (PartsRise f) fs
rise_head f fs order = λ k d b. order zero (suc k) d (omega arith) (omega arith)

rise_tail : (f : Field) (fs : List Field) → AllPairs PartsRise (f ∷ fs) → AllPairs PartsRise fs
rise_tail f fs order = λ i j d b c. order (suc i) (suc j) d (omega arith) (omega arith)

module _ (P : Leaf → Type 0) where
  abbrev IsAt : Field → Type 0
  IsAt f = P f.leaf

  -- what two lists have the same atoms of
  abbrev AtomsAgree : List Field → List Field → Type 0
  AtomsAgree fs gs = (l : Leaf) → P l → atom_in l fs ≡ atom_in l gs

  -- where the first fields are of one leaf, their atoms are the same, and those of the later fields agree
  module _ (f g : Field) (fs gs : List Field) (first : All (PartsRise f) fs) (second : All (PartsRise g) gs) (agree : AtomsAgree (f ∷ fs) (g ∷ gs)) where
    heads_same : is_same_leaf f.leaf g.leaf ≡ true → P g.leaf → f ≡ g
    heads_same same at =
        let leaf : f.leaf ≡ g.leaf = leaf_one f.leaf g.leaf same in
        let some : Some f.atom ≡ Some g.atom = sym (first_atom g.leaf f fs same) ∙ agree g.leaf at ∙ first_atom g.leaf g gs (leaf_same g.leaf g.leaf refl) in
        let atom : f.atom ≡ g.atom = cc in
        λ i. record { leaf = leaf i; atom = atom i }

    tails_agree : is_same_leaf f.leaf g.leaf ≡ true → AtomsAgree fs gs
    tails_agree same l at =
        let leaf : f.leaf ≡ g.leaf = leaf_one f.leaf g.leaf same in
        elim (cases_Bool (is_same_leaf f.leaf l)) [
          | inl t ↦ none_behind f l fs first t ∙ sym (none_behind g l gs second (ap (λ m. is_same_leaf m l) (sym leaf) ∙ t))
          | inr n ↦ sym (later_atom l f fs n) ∙ agree l at ∙ later_atom l g gs (ap (λ m. is_same_leaf m l) (sym leaf) ∙ n)
        ]

    -- they can't be of two: each would stand behind the other
    heads_meet : is_same_leaf f.leaf g.leaf ≡ false → P f.leaf → P g.leaf → ⊥
    heads_meet other at_f at_g =
        let f_there : atom_in f.leaf gs ≡ Some f.atom
        = sym (later_atom f.leaf g gs (other_way f.leaf g.leaf other)) ∙ sym (agree f.leaf at_f) ∙ first_atom f.leaf f fs (leaf_same f.leaf f.leaf refl) in
        let g_there : atom_in g.leaf fs ≡ Some g.atom
        = sym (later_atom g.leaf f fs other) ∙ agree g.leaf at_g ∙ first_atom g.leaf g gs (leaf_same g.leaf g.leaf refl) in
        let f_behind : number g.leaf < number f.leaf = found_behind g f.leaf gs f.atom second f_there in
        let g_behind : number f.leaf < number g.leaf = found_behind f g.leaf fs g.atom first g_there in
        omega (arith, f_behind, g_behind)

  -- fields in order that have the same atoms are the same
  fields_same : (fs gs : List Field) → All IsAt fs → All IsAt gs → AllPairs PartsRise fs → AllPairs PartsRise gs → AtomsAgree fs gs → fs ≡ gs
  fields_same [] [] at_f at_g order_f order_g agree = refl
  fields_same [] (g ∷ gs) at_f at_g order_f order_g agree =
      let none : None ≡ Some g.atom = agree g.leaf (All-head IsAt g gs at_g) ∙ first_atom g.leaf g gs (leaf_same g.leaf g.leaf refl) in cc
  fields_same (f ∷ fs) [] at_f at_g order_f order_g agree =
      let none : None ≡ Some f.atom = sym (agree f.leaf (All-head IsAt f fs at_f)) ∙ first_atom f.leaf f fs (leaf_same f.leaf f.leaf refl) in cc
  fields_same (f ∷ fs) (g ∷ gs) at_f at_g order_f order_g agree =
      let first = rise_head f fs order_f in
      let second = rise_head g gs order_g in
      elim (cases_Bool (is_same_leaf f.leaf g.leaf)) [
        | inl same ↦
            let rest = fields_same fs gs (All-tail IsAt f fs at_f) (All-tail IsAt g gs at_g) (rise_tail f fs order_f) (rise_tail g gs order_g) (tails_agree f g fs gs first second agree same) in
            ap₂ ◌∷◌ (heads_same f g fs gs first second agree same (All-head IsAt g gs at_g)) rest
        | inr other ↦ absurd (heads_meet f g fs gs first second agree other (All-head IsAt f fs at_f) (All-head IsAt g gs at_g))
      ]

-- ---- the values of a unit, by their cells

module _ (kind : Kind) (keep : Test) (u : AttributeUnit) where
  -- a leaf of the unit
  abbrev IsOwn : Leaf → Type 0
  IsOwn l = unit_of l ≡ u

  -- the fields of a value that are kept
  abbrev kept : Row → List Field
  kept r = (restricted_row keep r).fields

  kept_own : (r : Row) → IsValue kind u r → All (λ (f : Field). IsOwn f.leaf) (kept r)
  kept_own r is =
      All-weaker (IsSoundField kind r.unit) (λ (f : Field). IsOwn f.leaf) (λ f own. own.0 ∙ is.0) (kept r)
      (All-filter (λ (f : Field). keep r f.leaf) (IsSoundField kind r.unit) r.fields is.2.own)

  kept_order : (r : Row) → IsValue kind u r → AllPairs PartsRise (kept r)
  kept_order r is = AllPairs-filter PartsRise (λ (f : Field). keep r f.leaf) r.fields is.2.in_order

  -- where the same atoms are kept of two values, the same fields are kept
  kept_same : (r s : Row) → IsValue kind u r → IsValue kind u s → AtomsAgree IsOwn (kept r) (kept s) → kept r ≡ kept s
  kept_same r s first second agree = fields_same IsOwn (kept r) (kept s) (kept_own r first) (kept_own s second) (kept_order r first) (kept_order s second) agree

  -- where no atom is kept of a value, no field is kept
  none_kept : (r : Row) → IsValue kind u r → ((l : Leaf) → IsOwn l → atom_in l (kept r) ≡ None) → kept r ≡ []
  none_kept r is none =
      fields_same IsOwn (kept r) [] (kept_own r is) (All-nil (λ (f : Field). IsOwn f.leaf)) (kept_order r is) (λ i j d b c. absurd (omega (arith, c))) none

  -- the same cells are kept of two lists of values
  abbrev CellsAgree : List Row → List Row → Type 0
  CellsAgree vs ws = (l : Leaf) (k : ℕ) → IsOwn l → atom_at l k (map (restricted_row keep) vs) ≡ atom_at l k (map (restricted_row keep) ws)

  -- so the same is kept of both
  values_same : (vs ws : List Row) → All (IsValue kind u) vs → All (IsValue kind u) ws → CellsAgree vs ws → restricted keep vs ≡ restricted keep ws
  values_same [] [] first second agree = refl
  values_same [] (w ∷ ws) first second agree =
      rw (none_kept w (All-head (IsValue kind u) w ws second) (λ l is. sym (agree l zero is)))
      (values_same [] ws first (All-tail (IsValue kind u) w ws second) (λ l k is. agree l (suc k) is))
  values_same (v ∷ vs) [] first second agree =
      rw (none_kept v (All-head (IsValue kind u) v vs first) (λ l is. agree l zero is))
      (values_same vs [] (All-tail (IsValue kind u) v vs first) second (λ l k is. agree l (suc k) is))
  values_same (v ∷ vs) (w ∷ ws) first second agree =
      let v_own = All-head (IsValue kind u) v vs first in
      let w_own = All-head (IsValue kind u) w ws second in
      let rest = values_same vs ws (All-tail (IsValue kind u) v vs first) (All-tail (IsValue kind u) w ws second) (λ l k is. agree l (suc k) is) in
      let fields : kept v ≡ kept w = kept_same v w v_own w_own (λ l is. agree l zero is) in
      let unit : v.unit ≡ w.unit = v_own.0 ∙ sym w_own.0 in
      let row : restricted_row keep v ≡ restricted_row keep w = λ i. record { unit = unit i; fields = fields i } in
      λ i. if has_fields (row i) then row i ∷ rest i else rest i

-- ---- resources, by their cells

-- the cell that a test keeps at a leaf and a position, None where it keeps none
abbrev pub kept_cell : Test → Leaf → ℕ → List Row → Option Atom
kept_cell keep l k rs = atom_at l k (map (restricted_row keep) (values (unit_of l) rs))

-- where the same cells are kept of two resources, the same is kept of both
pub cells_kept : (keep : Test) (a b : Content) → IsResource a → IsResource b → a.kind ≡ b.kind
    → ((l : Leaf) (k : ℕ) → kept_cell keep l k (rows a) ≡ kept_cell keep l k (rows b)) → restricted keep (rows a) ≡ restricted keep (rows b)
cells_kept keep a b one two kinds cells =
    let first = sound_part a one.part in
    let second : AreSound a.kind (rows b) = subst (λ (k : Kind). AreSound k (rows b)) (sym kinds) (sound_part b two.part) in
    same_restricted a.kind keep (rows a) (rows b) first second
    (λ u. values_same a.kind keep u (values u (rows a)) (values u (rows b)) (values_fit a.kind u (rows a) first).own (values_fit a.kind u (rows b) second).own
    (λ l k is. subst (λ (w : AttributeUnit). atom_at l k (map (restricted_row keep) (values w (rows a))) ≡ atom_at l k (map (restricted_row keep) (values w (rows b)))) is (cells l k)))

-- at a leaf that a test decides on whatever the row, it keeps each cell, or none
atom_by_leaf : (keep : Test) (l : Leaf) (b : Bool) → ((r : Row) → keep r l ≡ b) → (k : ℕ) (rs : List Row)
    → atom_at l k (map (restricted_row keep) rs) ≡ (if b then atom_at l k rs else None)
atom_by_leaf keep l true same k [] = refl
atom_by_leaf keep l false same k [] = refl
atom_by_leaf keep l b same zero (r ∷ rs) = kept_atom (keep r) l r.fields ∙ ap (λ c. if c then atom_in l r.fields else None) (same r)
atom_by_leaf keep l b same (suc k) (r ∷ rs) = atom_by_leaf keep l b same k rs

-- so there the same cell is kept of two lists of rows, where it is the same in both or the leaf isn't kept
cell_by_leaf : (keep : Test) (l : Leaf) (b : Bool) → ((r : Row) → keep r l ≡ b) → (k : ℕ) (rs ss : List Row) → (b ≡ true → cell_at l k rs ≡ cell_at l k ss)
    → kept_cell keep l k rs ≡ kept_cell keep l k ss
cell_by_leaf keep l b same k rs ss stays = atom_by_leaf keep l b same k (values (unit_of l) rs) ∙ by b stays ∙ sym (atom_by_leaf keep l b same k (values (unit_of l) ss))
  where
    by : (c : Bool) → (c ≡ true → cell_at l k rs ≡ cell_at l k ss) → (if c then cell_at l k rs else None) ≡ (if c then cell_at l k ss else None)
    by true h = h refl
    by false h = refl

-- ---- leaves that no value filter is on

-- whether the viewer sees a leaf of a resource in all values
abbrev sees_leaf : Viewer → Content → Leaf → Bool
sees_leaf v c l = not (is_write_only c.kind l) && may_read v c l

-- no path covers the leaf at some values
none_covers : (l : Leaf) (fs : List FilteredPath) → list_any (is_filter_on l.attribute) fs ≡ false → list_any (covers_in_part l) fs ≡ false
none_covers l [] none = refl
none_covers l (f ∷ fs) none =
    let parts = or_parts (is_filter_on l.attribute f) (list_any (is_filter_on l.attribute) fs) none in
    elim (cases_Bool (is_multi_valued l.attribute)) [
      | inr single ↦ rw single (none_covers l fs parts.1)
      | inl multi ↦ elim (cases_Bool (is_same_attribute l.attribute Groups)) [
        | inl own ↦ rw (multi, own) (none_covers l fs parts.1)
        | inr other ↦ rw (multi, other, parts.0) (none_covers l fs parts.1)
      ]
    ]

none_for_kind : (kind : Kind) (l : Leaf) (ps : List KindPaths) → has_filter_on l.attribute ps ≡ false → list_any (covers_in_part l) (filtered_on kind ps) ≡ false
none_for_kind kind l [] none = refl
none_for_kind kind l (p ∷ ps) none =
    let parts = or_parts (list_any (is_filter_on l.attribute) p.filtered) (has_filter_on l.attribute ps) none in
    elim (cases_Bool (sameb the_kind kind p.kind)) [
      | inl own ↦ rw own (none_covers l p.filtered parts.0)
      | inr other ↦ rw other (none_for_kind kind l ps parts.1)
    ]

none_partly : (c : Content) (l : Leaf) (rs : List Rule) → has_value_filter rs l.attribute ≡ false → list_any (covers_partly Read c l) rs ≡ false
none_partly c l [] none = refl
none_partly c l (r ∷ rs) none =
    let parts = or_parts (has_filter_on l.attribute r.paths) (has_value_filter rs l.attribute) none in
    rw (none_for_kind c.kind l r.paths parts.0) (none_partly c l rs parts.1)

-- it is read in each value, or in none
sees_alike : (v : Viewer) (c : Content) (l : Leaf) → has_value_filter v.policy l.attribute ≡ false → (r : Row) → may_see v c r l ≡ sees_leaf v c l
unfolding decide_in
sees_alike v c l none r =
    ap (λ (d : Decision). not (is_write_only c.kind l) && d.allow)
    (ap (decided_for (λ t. truth_in_value t r)) (undivided_pattern v.policy v.client c l (none_partly c l v.policy none)))

module _ (v : Viewer) (old new : Content) (one : IsResource old) (two : IsResource new) (kinds : old.kind ≡ new.kind) (ids : old.id ≡ new.id)
    (hidden : (l : Leaf) (k : ℕ) → IsHiddenAt v old new l k) where
  -- whether a leaf's attribute is one that decisions or uniqueness rest on
  abbrev decides_by : Kind → Leaf → Bool
  decides_by kind l = is_named_in v.policy l.attribute || is_unique kind l.attribute

  -- values of an attribute that a value filter is on stay
  abbrev everything : Test
  everything r l = true

  all_kept : (u : AttributeUnit) (rs : List Row) → AreSound old.kind rs → restricted everything (values u rs) ≡ values u rs
  all_kept u rs sound =
      restricted_kept everything (values u rs) (All-filter (λ (r : Row). is_eq (unit_cmp r.unit u)) (λ r. has_fields r ≡ true) rs sound.full)
      (λ k e l. λ j f m. refl)

  new_sound : AreSound old.kind (rows new)
  new_sound = subst (λ (k : Kind). AreSound k (rows new)) (sym kinds) (sound_part new two.part)

  filtered_stay : (u : AttributeUnit) → has_value_filter v.policy u.attribute ≡ true → values u (rows old) ≡ values u (rows new)
  filtered_stay u filtered =
      let first = sound_part old one.part in
      sym (all_kept u (rows old) first)
      ∙ values_same old.kind everything u (values u (rows old)) (values u (rows new)) (values_fit old.kind u (rows old) first).own (values_fit old.kind u (rows new) new_sound).own cells
      ∙ all_kept u (rows new) new_sound
    where
      cell : (l : Leaf) (k : ℕ) → unit_of l ≡ u → cell_at l k (rows old) ≡ cell_at l k (rows new)
      cell l k own = elim (hidden l k) [
        | inl same ↦ same
        | inr parts ↦ absurd (let yes' : has_value_filter v.policy l.attribute ≡ true = ap (λ (w : AttributeUnit). has_value_filter v.policy w.attribute) own ∙ filtered in let no' = parts.3 in cc)
      ]

      cells : CellsAgree old.kind everything u (values u (rows old)) (values u (rows new))
      cells l k own =
          atom_by_leaf everything l true (λ r. refl) k (values u (rows old))
          ∙ subst (λ (w : AttributeUnit). atom_at l k (values w (rows old)) ≡ atom_at l k (values w (rows new))) own (cell l k own)
          ∙ sym (atom_by_leaf everything l true (λ r. refl) k (values u (rows new)))

  -- cells of a leaf that may be seen stay
  seen_stays : (l : Leaf) (k : ℕ) → sees_leaf v old l ≡ true → cell_at l k (rows old) ≡ cell_at l k (rows new)
  seen_stays l k sees = elim (hidden l k) [
    | inl same ↦ same
    | inr parts ↦ (let reads : may_read v old l ≡ true = (and_parts (not (is_write_only old.kind l)) (may_read v old l) sees).1 in let no' = parts.0 in cc)
  ]

  -- so the same cells are seen
  cell_stays : (l : Leaf) (k : ℕ) → kept_cell (may_see v old) l k (rows old) ≡ kept_cell (may_see v old) l k (rows new)
  cell_stays l k = elim (cases_Bool (has_value_filter v.policy l.attribute)) [
    | inl filtered ↦ ap (λ rs. atom_at l k (map (restricted_row (may_see v old)) rs)) (filtered_stay (unit_of l) filtered)
    | inr none ↦ cell_by_leaf (may_see v old) l (sees_leaf v old l) (sees_alike v old l none) k (rows old) (rows new) (seen_stays l k)
  ]

  -- and those by which it is decided
  control_stays : (l : Leaf) (k : ℕ) → decides_by old.kind l ≡ true → cell_at l k (rows old) ≡ cell_at l k (rows new)
  control_stays l k decides = elim (hidden l k) [
    | inl same ↦ same
    | inr parts ↦ (let no' : decides_by old.kind l ≡ false = rw (parts.1, parts.2) refl in cc)
  ]

  -- so decisions rest on the same
  control_kept : control v.policy old ≡ control v.policy new
  unfolding control
  control_kept =
      sym (attributes_same (λ at. is_named_in v.policy at || is_unique old.kind at) old one)
      ∙ cells_kept (by_leaf (decides_by old.kind)) old new one two kinds
      (λ l k. cell_by_leaf (by_leaf (decides_by old.kind)) l (decides_by old.kind l) (λ r. refl) k (rows old) (rows new) (control_stays l k))
      ∙ attributes_same (λ at. is_named_in v.policy at || is_unique old.kind at) new two
      ∙ (λ i. filter (λ (r : Row). is_named_in v.policy r.unit.attribute || is_unique (kinds i) r.unit.attribute) (rows new))

  -- and the viewer sees the same
  seen_kept : visible v old ≡ visible v new
  unfolding visible visible_by
  seen_kept =
      let rules : pattern_rules v.policy v.client old ≡ pattern_rules v.policy v.client new = fun_ext (λ (l : Leaf). patterns_same v.policy v.client old new l kinds control_kept) in
      let may : may_see v old ≡ may_see v new = λ i. may_be_seen (reading_same v old new rules i) (kinds i) in
      let seen : restricted (may_see v old) (rows old) ≡ restricted (may_see v new) (rows new)
      = cells_kept (may_see v old) old new one two kinds cell_stays
      ∙ ap (λ keep. restricted keep (rows new)) may in
      λ i. content (kinds i) (ids i) (seen i)

-- where each cell stays, or can't be read and nothing rests on its attribute, the viewer sees the same and decisions rest on the same
pub hidden_cells : (v : Viewer) (old new : Content) → IsResource old → IsResource new → old.kind ≡ new.kind → old.id ≡ new.id
    → ((l : Leaf) (k : ℕ) → IsHiddenAt v old new l k) → (visible v old ≡ visible v new) × (control v.policy old ≡ control v.policy new)
hidden_cells v old new one two kinds ids hidden = (seen_kept v old new one two kinds ids hidden, control_kept v old new one two kinds ids hidden)

-- so a change of such cells is quiet
pub hidden_cells_are_quiet : HiddenCellsAreQuiet
hidden_cells_are_quiet v before after old new there kept one two kinds ids hidden =
    let both = hidden_cells v old new one two kinds ids hidden in
    inr (inr (record { old = old; new = new; there = there; kept = kept; same_kind = kinds; same_id = ids; same_visible = both.0; same_control = both.1 }))
