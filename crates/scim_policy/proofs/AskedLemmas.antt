-- What the texts of a resource tell of the targets that it meets.
use Rattle.std.proofs.Common.{◌≡◌, refl, sym, ◌∙◌, ap, subst, ℕ, Bool, true, false, ◌&&◌, List, [], ◌∷◌, ◌++◌, ◌<◌, length, get_or, inl, inr}
use Rattle.std.specs.Prelude.{Option, None, Some, IfSome, All, not}
use Rattle.std.specs.Global.{Vec}
use Rattle.std.specs.List.{list_any}
use Rattle.std.proofs.lemmas.Bool.{cases_Bool, or_left, or_right}
use Rattle.std.proofs.lemmas.List.Elements.{All-append, All-cons, All-get_or, All-nil, All-weaker}
use Rattle.std.proofs.lemmas.List.Folds.{list_any-append}
use Rattle.std.proofs.lemmas.Map.Text.{is_eq-slice_cmp}
use denote.Enum.Bare.{sameb, same_true, true_same}
use Rattle.scim_schema.specs.Characteristics.{is_case_exact}
use Rattle.scim_schema.specs.contracts.Attribute.{the_type as the_attribute}
use Rattle.scim_schema.specs.contracts.Kind.{the_type as the_kind}
use Rattle.scim_schema.specs.declared.Kind.{Kind}
use Rattle.scim_schema.specs.declared.Leaf.{Leaf}
use Rattle.scim_schema.specs.Units.{is_same_attribute, is_same_leaf}
use Rattle.scim_schema.proofs.Facts.{and_first, and_second, attribute_one, leaf_one}
use Rattle.scim_cell.specs.Content.{Content}
use Rattle.scim_cell.specs.declared.atoms.Atom.{Atom}
use Rattle.scim_cell.specs.declared.atoms.Atom.TheVariants as atom
use Rattle.scim_cell.specs.declared.rows.Field.{Field}
use Rattle.scim_cell.specs.Rows.{Row, rows}
use Rattle.scim_filter_grammar.specs.declared.tree.Literal.TheVariants as literal
use Rattle.scim_filter_grammar.specs.declared.tree.Operator.TheVariants.{Eq}
use Rattle.scim_filter.specs.Relation.{cased, stands}
use Rattle.scim_filter_texts.specs.Needed.{has_text}
use Rattle.scim_filter_texts.specs.declared.needs.NeededText.{NeededText}
use Rattle.scim_filter_texts.proofs.Facts.{cell_by_row, own_passes}
use Rattle.scim_policy.specs.declared.asked_texts.AskedText.{AskedText}
use Rattle.scim_policy.specs.declared.asked_texts.AskedTexts.{AskedTexts}
use Rattle.scim_policy.specs.declared.reading_rules.ReadingRule.{ReadingRule}
use Rattle.scim_policy.specs.Fits.{is_target_met}
use Rattle.scim_policy.specs.code.Asked.{asked_text, is_asked, asks_of, asked_in, asked_among, compared_atom, may_equal, has_equal, may_have, may_have_some, may_be_met, TellOf, AreNeeded}
use Rattle.scim_policy.specs.code.Inside.{KnowsNeeds}

-- an atom that equals a text may equal it as stored
stands_stored : (exact : Bool) (a : Atom) (text : List ℕ) → stands exact Eq a (literal.Text text) ≡ true → may_equal (compared_atom exact a) (cased exact text) ≡ true
stands_stored exact (atom.Text own) text e = sym (is_eq-slice_cmp (cased exact own) (cased exact text)) ∙ e
stands_stored exact (atom.Truth b) text e = refl
stands_stored exact (atom.Moment m) text e = refl

module _ (leaves : List Leaf) (l : Leaf) (text : List ℕ) (asked : is_asked leaves l ≡ true) where
  abbrev compared : List ℕ
  compared = cased (is_case_exact l) text

  abbrev stands_in : Field → Bool
  stands_in f = is_same_leaf f.leaf l && stands (is_case_exact l) Eq f.atom (literal.Text text)

  -- a field with the text is stored with an equal text
  field_stored : (f : Field) → stands_in f ≡ true → (is_asked leaves f.leaf ≡ true) × ((is_same_leaf f.leaf l && may_equal (asked_text f).text compared) ≡ true)
  field_stored f e =
      let at_leaf = and_first (is_same_leaf f.leaf l) (stands (is_case_exact l) Eq f.atom (literal.Text text)) e in
      let same : f.leaf ≡ l = leaf_one f.leaf l at_leaf in (
        ap (is_asked leaves) same ∙ asked,
        ap (λ (b : Bool). b && may_equal (asked_text f).text compared) at_leaf
            ∙ ap (λ (k : Leaf). may_equal (compared_atom (is_case_exact k) f.atom) compared) same
            ∙ stands_stored (is_case_exact l) f.atom text (and_second (is_same_leaf f.leaf l) (stands (is_case_exact l) Eq f.atom (literal.Text text)) e),
      )

  row_stored : (fs : List Field) → list_any stands_in fs ≡ true → has_equal (asked_in leaves fs) l compared ≡ true
  row_stored [] e = cc
  row_stored (f ∷ fs) e = elim (cases_Bool (stands_in f)) [
    | inl t ↦
        let stored = field_stored f t in
        rw stored.0 (or_left (is_same_leaf f.leaf l && may_equal (asked_text f).text compared) (has_equal (asked_in leaves fs) l compared) stored.1)
    | inr n ↦
        let rest = row_stored fs (rw n at e) in
        elim (cases_Bool (is_asked leaves f.leaf)) [
          | inl t ↦ rw t (or_right (is_same_leaf f.leaf l && may_equal (asked_text f).text compared) (has_equal (asked_in leaves fs) l compared) rest)
          | inr u ↦ rw u rest
        ]
  ]

  -- the leaf's attribute is asked
  attribute_asked : (ls : List Leaf) → is_asked ls l ≡ true → asks_of ls l.attribute ≡ true
  attribute_asked [] e = cc
  attribute_asked (k ∷ ls) e = elim (cases_Bool (is_same_leaf l k)) [
    | inl t ↦
        or_left (is_same_attribute k.attribute l.attribute) (asks_of ls l.attribute)
        (ap (λ (m : Leaf). is_same_attribute k.attribute m.attribute) (leaf_one l k t) ∙ true_same the_attribute k.attribute k.attribute refl)
    | inr n ↦ or_right (is_same_attribute k.attribute l.attribute) (asks_of ls l.attribute) (attribute_asked ls (rw n at e))
  ]

  rows_stored : (rs : List Row) → list_any (own_passes stands_in l.attribute) rs ≡ true → has_equal (asked_among leaves rs) l compared ≡ true
  rows_stored [] e = cc
  rows_stored (r ∷ rs) e =
      let equal_at : AskedText → Bool = λ t. is_same_leaf t.leaf l && may_equal t.text compared in
      let behind = has_equal (asked_among leaves rs) l compared in
      elim (cases_Bool (own_passes stands_in l.attribute r)) [
        | inl t ↦
            let of_attribute = and_first (sameb the_attribute r.unit.attribute l.attribute) (list_any stands_in r.fields) t in
            let inner = and_second (sameb the_attribute r.unit.attribute l.attribute) (list_any stands_in r.fields) t in
            let of_row : asks_of leaves r.unit.attribute ≡ true = ap (asks_of leaves) (attribute_one r.unit.attribute l.attribute of_attribute) ∙ attribute_asked leaves asked in
            rw of_row
            (list_any-append equal_at (asked_in leaves r.fields) (asked_among leaves rs)
            ∙ or_left (has_equal (asked_in leaves r.fields) l compared) behind (row_stored r.fields inner))
        | inr n ↦
            let rest = rows_stored rs (rw n at e) in
            elim (cases_Bool (asks_of leaves r.unit.attribute)) [
              | inl t ↦
                  rw t
                  (list_any-append equal_at (asked_in leaves r.fields) (asked_among leaves rs)
                  ∙ or_right (has_equal (asked_in leaves r.fields) l compared) behind rest)
              | inr u ↦ rw u rest
            ]
      ]

-- a text that the rows have may be among those stored of them
stored_may_have : (asked : AskedTexts) (rs : List Row) → asked.texts.items ≡ asked_among asked.leaves.now rs → (t : NeededText) → has_text t.leaf t.text.now rs ≡ true → may_have asked t ≡ true
stored_may_have asked rs are t has =
    let equal = has_equal asked.texts.items t.leaf (cased (is_case_exact t.leaf) t.text.now) in
    elim (cases_Bool (is_asked asked.leaves.now t.leaf)) [
      | inl i ↦
          or_left equal (not (is_asked asked.leaves.now t.leaf))
          (ap (λ (ts : List AskedText). has_equal ts t.leaf (cased (is_case_exact t.leaf) t.text.now)) are
          ∙ rows_stored asked.leaves.now t.leaf t.text.now i rs
          (sym (cell_by_row (stands_in asked.leaves.now t.leaf t.text.now i) t.leaf.attribute rs) ∙ has))
      | inr n ↦ or_right equal (not (is_asked asked.leaves.now t.leaf)) (rw n refl)
    ]

-- the texts that are stored of the rows tell which texts these don't have
pub stored_tell : (asked : AskedTexts) (rs : List Row) → asked.texts.items ≡ asked_among asked.leaves.now rs → TellOf rs asked
stored_tell asked rs are [] has = cc
stored_tell asked rs are (t ∷ ts) has = elim (cases_Bool (has_text t.leaf t.text.now rs)) [
  | inl h ↦ or_left (may_have asked t) (may_have_some asked ts) (stored_may_have asked rs are t h)
  | inr n ↦ or_right (may_have asked t) (may_have_some asked ts) (stored_tell asked rs are ts (rw n at has))
]

-- a rule whose target the resource meets may be met by its texts
pub met_may : (kind : Kind) (c : Content) (o : Option AskedTexts) (r : ReadingRule)
    → IfSome o (λ asked. (c.kind ≡ kind) × TellOf (rows c) asked) → KnowsNeeds kind r
    → is_target_met c r.rule.now ≡ true → may_be_met o r.needed ≡ true
met_may kind c None r tell knows met = refl
met_may kind c (Some asked) r tell knows met = by_needed r.needed knows
  where
    by_needed : (needed : Option (Vec NeededText)) → IfSome needed (λ texts. AreNeeded kind r.rule.now texts.items) → may_be_met (Some asked) needed ≡ true
    by_needed None is = refl
    by_needed (Some texts) is = tell.1 texts.items (is c tell.0 met)

-- a rule whose target the resource meets may be met by its texts
abbrev pub IsTold : Content → Option AskedTexts → ReadingRule → Type 0
IsTold c o r = is_target_met c r.rule.now ≡ true → may_be_met o r.needed ≡ true

pub all_told : (kind : Kind) (c : Content) (o : Option AskedTexts) (rs : List ReadingRule)
    → IfSome o (λ asked. (c.kind ≡ kind) × TellOf (rows c) asked) → All (KnowsNeeds kind) rs → All (IsTold c o) rs
all_told kind c o rs tell know = All-weaker (KnowsNeeds kind) (IsTold c o) (λ r. met_may kind c o r tell) rs know

pub told_at : (c : Content) (o : Option AskedTexts) (rs : List ReadingRule) (i : ℕ) (r : ReadingRule)
    → All (IsTold c o) rs → i < length rs → r ≡ get_or rs i r → IsTold c o r
told_at c o rs i r all less there = subst (IsTold c o) (sym there) (All-get_or (IsTold c o) rs i r less all)

-- a rule whose texts are known, behind others
pub known_too : (kind : Kind) (rs new : List ReadingRule) (r : ReadingRule) → new ≡ rs ++ r ∷ [] → All (KnowsNeeds kind) rs → KnowsNeeds kind r → All (KnowsNeeds kind) new
known_too kind rs new r are before this =
    subst (All (KnowsNeeds kind)) (sym are)
    (All-append (KnowsNeeds kind) rs (r ∷ []) before (All-cons (KnowsNeeds kind) r [] this (All-nil (KnowsNeeds kind))))

-- an answer that is tested only where it may be true
pub only_if : (may met : Bool) → (met ≡ true → may ≡ true) → may && met ≡ met
only_if true met if_met = refl
only_if false true if_met = if_met refl
only_if false false if_met = refl

-- kinds that don't differ
pub same_kind : (a b : Kind) → not (sameb the_kind a b) ≡ false → a ≡ b
same_kind a b e = same_true the_kind tt a b (not_not (sameb the_kind a b) e)
  where
    not_not : (same : Bool) → not same ≡ false → same ≡ true
    not_not true e = refl
    not_not false e = sym e
