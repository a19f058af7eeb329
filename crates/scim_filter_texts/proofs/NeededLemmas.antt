-- What a term says of a text.
use Rattle.std.proofs.Common.{◌≡◌, refl, sym, ◌∙◌, ap, ℕ, Bool, true, false, ◌&&◌, ◌||◌, List, [], ◌∷◌, ◌++◌, filter, inl, inr}
use Rattle.std.specs.Prelude.{Option, None, Some}
use Rattle.std.specs.List.{list_any}
use Rattle.std.specs.Option.{option_eq}
use Rattle.std.proofs.Math.Bool.{or-false}
use Rattle.std.proofs.lemmas.Bool.{cases_Bool, or_left, or_right}
use Rattle.std.proofs.lemmas.List.Folds.{list_any-append}
use denote.Enum.Bare.{sameb}
use Rattle.scim_schema.specs.Characteristics.{is_case_exact, is_multi_valued}
use Rattle.scim_schema.specs.contracts.Attribute.{the_type as the_attribute}
use Rattle.scim_schema.specs.declared.Attribute.{Attribute}
use Rattle.scim_schema.specs.declared.Leaf.{Leaf}
use Rattle.scim_schema.specs.Units.{is_same_leaf}
use Rattle.scim_schema.proofs.Facts.{leaf_one}
use Rattle.scim_cell.specs.declared.rows.Field.{Field}
use Rattle.scim_cell.specs.Rows.{Row, attribute_rows}
use Rattle.scim_filter_grammar.specs.declared.tree.Literal.TheVariants.{Text}
use Rattle.scim_filter_grammar.specs.declared.tree.Meant.{Meant}
use Rattle.scim_filter_grammar.specs.declared.tree.Meant.TheVariants as meant
use Rattle.scim_filter_grammar.specs.declared.tree.Operator.TheVariants.{Eq}
use Rattle.scim_filter.specs.Relation.{stands}
use Rattle.scim_filter.specs.Truth.{compares, some_cell, some_position, truth}
use Rattle.scim_filter_grammar.specs.Tree.{Tree, Or}
use Rattle.scim_filter_grammar.specs.Types.{compared_leaf}
use Rattle.scim_filter_texts.specs.Needed.{has_some_text, has_text, NeedsSome}
use Rattle.scim_filter_texts.specs.declared.needs.NeededText.{NeededText}

-- what passes among some passes among all
pub either : (a b c d : Bool) → (a ≡ true → c ≡ true) → (b ≡ true → d ≡ true) → (a || b) ≡ true → (c || d) ≡ true
either true b c d f g e = rw (f refl) refl
either false b c d f g e = or_right c d (g e)

pub any_kept : {X : Type 0} (p q : X → Bool) (xs : List X) → list_any p (filter q xs) ≡ true → list_any p xs ≡ true
any_kept p q [] e = e
any_kept p q (x ∷ xs) e = elim (cases_Bool (q x)) [
  | inl t ↦ either (p x) (list_any p (filter q xs)) (p x) (list_any p xs) (λ h. h) (any_kept p q xs) (rw t at e)
  | inr u ↦ or_right (p x) (list_any p xs) (any_kept p q xs (rw u at e))
]

-- whether a field of the attribute passes, row by row
abbrev pub own_passes : (Field → Bool) → Attribute → Row → Bool
own_passes p a r = sameb the_attribute r.unit.attribute a && list_any p r.fields

pub cell_by_row : (p : Field → Bool) (a : Attribute) (rs : List Row) → some_cell p a rs ≡ list_any (own_passes p a) rs
cell_by_row p a [] = refl
cell_by_row p a (r ∷ rs) = elim (cases_Bool (sameb the_attribute r.unit.attribute a)) [
  | inl t ↦ rw t (ap (λ b. list_any p r.fields || b) (cell_by_row p a rs))
  | inr u ↦ rw u (cell_by_row p a rs)
]

leaf_given : (o : Option Leaf) (l : Leaf) → option_eq is_same_leaf o (Some l) ≡ true → o ≡ Some l
leaf_given None l e = cc
leaf_given (Some m) l e = ap (λ (k : Leaf). Some k) (leaf_one m l e)

-- an `eq` with a text holds only where the text stands at the leaf that is compared
pub text_stands : (m : Meant) (l : Leaf) (text : List ℕ) (rs : List Row) → option_eq is_same_leaf (compared_leaf m) (Some l) ≡ true
    → compares m Eq (Text text) rs ≡ true → has_text l text rs ≡ true
text_stands m l text rs same holds = rw (leaf_given (compared_leaf m) l same) at holds

-- rows among others: what a row of them passes, a row of the others passes
abbrev pub AreAmong : List Row → List Row → Type 0
AreAmong qs rs = (p : Row → Bool) → list_any p qs ≡ true → list_any p rs ≡ true

one_of : (holds : List Row → Bool) (rs : List Row) → list_any (λ (r : Row). holds (r ∷ [])) rs ≡ true → (qs : List Row) × (holds qs ≡ true) × AreAmong qs rs
one_of holds [] e = cc
one_of holds (r ∷ rs) e = elim (cases_Bool (holds (r ∷ []))) [
  | inl t ↦ (r ∷ [], t, λ p some. or_left (p r) (list_any p rs) (sym (or-false (p r)) ∙ some))
  | inr n ↦ let rest = one_of holds rs (rw n at e) in (rest.0, rest.1, λ p some. or_right (p r) (list_any p rs) (rest.2 p some))
]

-- where a value path holds, its brackets hold of rows among these
pub position_rows : (holds : List Row → Bool) (m : Meant) (rs : List Row) → some_position holds m rs ≡ true → (qs : List Row) × (holds qs ≡ true) × AreAmong qs rs
position_rows holds meant.Nothing rs e = cc
position_rows holds (meant.SubAttribute a b) rs e = cc
position_rows holds (meant.Attribute a) rs e =
    let own : Row → Bool = λ r. sameb the_attribute r.unit.attribute a in
    elim (cases_Bool (is_multi_valued a)) [
      | inl t ↦
          let one = one_of holds (attribute_rows a rs) (rw t at e) in
          (one.0, one.1, λ p some. any_kept p own rs (one.2 p some))
      | inr n ↦ (attribute_rows a rs, rw n at e, λ p. any_kept p own rs)
    ]

-- a text that some of the rows have
pub text_among : (l : Leaf) (text : List ℕ) (qs rs : List Row) → AreAmong qs rs → has_text l text qs ≡ true → has_text l text rs ≡ true
text_among l text qs rs among has =
    let stands_at : Field → Bool = λ f. is_same_leaf f.leaf l && stands (is_case_exact l) Eq f.atom (Text text) in
    cell_by_row stands_at l.attribute rs ∙ among (own_passes stands_at l.attribute) (sym (cell_by_row stands_at l.attribute qs) ∙ has)

-- so have they some of texts
pub some_text_among : (texts : List NeededText) (qs rs : List Row) → AreAmong qs rs → has_some_text texts qs ≡ true → has_some_text texts rs ≡ true
some_text_among [] qs rs among e = e
some_text_among (t ∷ texts) qs rs among e =
    either (has_text t.leaf t.text.now qs) (has_some_text texts qs) (has_text t.leaf t.text.now rs) (has_some_text texts rs)
    (text_among t.leaf t.text.now qs rs among) (some_text_among texts qs rs among) e

-- what the brackets of a value path need, the value path needs
pub position_stands : (holds has : List Row → Bool) (m : Meant) (rs : List Row) → ((qs : List Row) → AreAmong qs rs → has qs ≡ true → has rs ≡ true)
    → ((qs : List Row) → holds qs ≡ true → has qs ≡ true) → some_position holds m rs ≡ true → has rs ≡ true
position_stands holds has m rs more needs e =
    let inner = position_rows holds m rs e in
    more inner.0 inner.2 (needs inner.0 inner.1)

-- a disjunction needs one of the texts of which each of its sides needs one
pub either_needs : (a b : Tree) (xs ys : List NeededText) → NeedsSome a xs → NeedsSome b ys → NeedsSome (Or a b) (xs ++ ys)
either_needs a b xs ys first second rs e =
    let has : NeededText → Bool = λ t. has_text t.leaf t.text.now rs in
    list_any-append has xs ys ∙ either (truth a rs) (truth b rs) (has_some_text xs rs) (has_some_text ys rs) (first rs) (second rs) e
