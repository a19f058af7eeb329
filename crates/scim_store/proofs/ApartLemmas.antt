-- Names that are looked at in turn.
use Rattle.std.proofs.Common.{◌≡◌, ℕ, ◌<◌, ◌+◌, refl, sym, ◌∙◌, ap, subst, Bool, true, false, not, ◌||◌, ◌&&◌, cond, List, [], ◌∷◌, ◌++◌, length, take, drop, get_or}
use Rattle.std.specs.Prelude.{None, Some}
use Rattle.std.specs.List.{list_any, AllByRecursion, IsDistinct}
use Rattle.std.specs.Ordering.{nat_cmp, is_eq, ordering_then}
use Rattle.std.specs.Cmp.{tied_then}
use Rattle.std.specs.Cmp.Lexicographic.{slice_cmp}
use Rattle.std.specs.BTreeSet.{BTreeSet, contains_by}
use Rattle.std.proofs.lemmas.List.{take_more, drop_more, take-append-drop}
use Rattle.std.proofs.lemmas.List.Folds.{list_any-append}
use denote.Ref.{Bor}
use Rattle.sqlite.specs.declared.types.Value.{Value}
use Rattle.sqlite.specs.declared.types.Value.TheVariants.{Null, Int, Real, Text, Blob}
use Rattle.sqlite.specs.Order.{Row, column, value_cmp}
use Rattle.scim_store_tables.specs.Lists.{has_text, is_text}
use Rattle.scim_store.specs.Damage.{is_shared}
use Rattle.scim_store.specs.code.Damage.{text_in}
use Rattle.scim_store.proofs.OwnedLemmas.{is_text_against}
use Rattle.scim_store.proofs.IdTextLemmas.{or_false}
use Rattle.scim_store.proofs.NameLemmas.{distinct_join}
use Rattle.scim_store.proofs.WholeLemmas.{distinct_parts}

-- whether the row of a unique name has this attribute and this text
abbrev pub names : List ℕ → List ℕ → Row → Bool
names attribute text row = has_text 1 attribute row && has_text 2 text row

-- whether an attribute and a text are in a set of borrowed pairs
abbrev pub is_known : List ℕ → List ℕ → BTreeSet (Bor (List ℕ) × Bor (List ℕ)) → Bool
is_known attribute text known = contains_by (λ k. ordering_then (slice_cmp nat_cmp attribute k.0.now) (slice_cmp nat_cmp text k.1.now)) known

pub text_in_is : (v : Value) (t : List ℕ) → Some t ≡ text_in v → v ≡ Text t
text_in_is Null t h = absurd cc
text_in_is (Int n) t h = absurd cc
text_in_is (Real x) t h = absurd cc
text_in_is (Text u) t h = (let same : u ≡ t = cc in ap (λ x. Text x) same)
text_in_is (Blob b) t h = absurd cc

pub no_text_in : (v : Value) (t : List ℕ) → None ≡ text_in v → v ≡ Text t → ⊥
no_text_in v t none is = (let c : None ≡ Some t = none ∙ ap text_in is in cc)

-- a row shares its attribute and its text just with those that have them
shared_at : (place : ℕ) (x row : Row) (t : List ℕ) → column row place ≡ Text t → is_eq (value_cmp (column x place) (column row place)) ≡ has_text place t x
shared_at place x row t is = ap (λ v. is_eq (value_cmp (column x place) v)) is ∙ sym (is_text_against t (column x place))

pub none_distinct : IsDistinct is_shared []
unfolding IsDistinct
none_distinct = tt

one_distinct : (row : Row) → IsDistinct is_shared (row ∷ [])
unfolding IsDistinct
one_distinct row = (tt, tt)

module _ (row : Row) (a t : List ℕ) (attribute : column row 1 ≡ Text a) (text : column row 2 ≡ Text t) where
  shared_named : (x : Row) → is_shared x row ≡ names a t x
  shared_named x = λ i. shared_at 1 x row a attribute i && shared_at 2 x row t text i

  each_none : (rows : List Row) → list_any (names a t) rows ≡ false → AllByRecursion (λ x. AllByRecursion (λ y. is_shared x y ≡ false) (row ∷ [])) rows
  each_none [] none = tt
  each_none (x ∷ rows) none = go (names a t x) refl none (each_none rows)
    where
      go : (b : Bool) → names a t x ≡ b → (b || list_any (names a t) rows) ≡ false → (list_any (names a t) rows ≡ false → AllByRecursion (λ z. AllByRecursion (λ y. is_shared z y ≡ false) (row ∷ [])) rows) → AllByRecursion (λ z. AllByRecursion (λ y. is_shared z y ≡ false) (row ∷ [])) (x ∷ rows)
      go true e h rest = absurd cc
      go false e h rest = ((shared_named x ∙ e, tt), rest h)

  none_each : (more rows : List Row) → AllByRecursion (λ x. AllByRecursion (λ y. is_shared x y ≡ false) (row ∷ more)) rows → list_any (names a t) rows ≡ false
  none_each more [] all = refl
  none_each more (x ∷ rows) all = (let here : names a t x ≡ false = sym (shared_named x) ∙ all.0.0 in let rest = none_each more rows all.1 in (λ i. here i || rest i))

  module _ (rows : List Row) (k : ℕ) (low : k < length rows) (at : row ≡ get_or rows k row) where
    taken_more : take (k + 1) rows ≡ take k rows ++ row ∷ []
    taken_more = take_more rows k row low ∙ ap (λ r. take k rows ++ r ∷ []) (sym at)

    pub apart_more : IsDistinct is_shared (take k rows) → list_any (names a t) (take k rows) ≡ false → IsDistinct is_shared (take (k + 1) rows)
    apart_more apart none = subst (IsDistinct is_shared) (sym taken_more) (distinct_join is_shared (take k rows) (row ∷ []) apart (one_distinct row) (each_none (take k rows) none))

    pub apart_clash : list_any (names a t) (take k rows) ≡ true → IsDistinct is_shared rows → ⊥
    apart_clash there apart =
        (let split : rows ≡ take k rows ++ row ∷ drop (k + 1) rows = sym (take-append-drop k rows) ∙ ap (λ l. take k rows ++ l) (drop_more rows k row low ∙ ap (λ r. r ∷ drop (k + 1) rows) (sym at)) in
        let none = none_each (drop (k + 1) rows) (take k rows) (distinct_parts (take k rows) (row ∷ drop (k + 1) rows) (subst (IsDistinct is_shared) split apart)).0 in
        let c : true ≡ false = sym there ∙ none in cc)

    pub known_more : (b u : List ℕ) → cond (is_eq (ordering_then (slice_cmp nat_cmp a b) (slice_cmp nat_cmp t u))) true (list_any (names b u) (take k rows)) ≡ list_any (names b u) (take (k + 1) rows)
    known_more b u =
        or_cond (is_eq (ordering_then (slice_cmp nat_cmp a b) (slice_cmp nat_cmp t u))) (list_any (names b u) (take k rows))
        ∙ ap (λ x. list_any (names b u) (take k rows) || x) (sym (tied_then (slice_cmp nat_cmp a b) (slice_cmp nat_cmp t u)) ∙ (λ i. is_text b (sym attribute i) && is_text u (sym text i)) ∙ sym (or_false (names b u row)))
        ∙ sym (list_any-append (names b u) (take k rows) (row ∷ []))
        ∙ ap (list_any (names b u)) (sym taken_more)
      where
        or_cond : (test b : Bool) → cond test true b ≡ (b || test)
        or_cond true true = refl
        or_cond true false = refl
        or_cond false true = refl
        or_cond false false = refl

pub not_true : (a b : Bool) → a ≡ not b → a ≡ false → b ≡ true
not_true a true e h = refl
not_true a false e h = (let c : false ≡ true = sym h ∙ e in absurd cc)

pub not_false : (a b : Bool) → a ≡ not b → a ≡ true → b ≡ false
not_false a false e h = refl
not_false a true e h = (let c : true ≡ false = sym h ∙ e in absurd cc)
