-- Values against a text, and the rows that begin with it.
use Rattle.std.proofs.Common.{◌≡◌, ℕ, zero, suc, ◌+◌, ◌-◌, ◌<◌, ◌≤◌, refl, sym, ◌∙◌, ap, subst, Bool, true, false, true≢false, inl, inr, List, [], ◌∷◌, ◌++◌, length, take, drop, get_or, filter, arith}
use Rattle.std.specs.List.{AllWithin}
use Rattle.std.specs.List.Sorted.{IsPartitionedBy, IsPartitionPoint}
use Rattle.std.specs.Ordering.{nat_cmp, is_eq, is_lt, is_le, is_gt, ordering_then, ordering_reverse}
use Rattle.std.specs.declared.cmp.Ordering.{Ordering}
use Rattle.std.specs.declared.cmp.Ordering.TheVariants.{Less, Equal, Greater}
use Rattle.std.specs.Cmp.Lexicographic.{slice_cmp}
use Rattle.std.proofs.lemmas.Bool.{false_from_ne_true}
use Rattle.std.proofs.lemmas.Cmp.{alike_right}
use Rattle.std.proofs.Math.Nat.{eq-or-lt_of_le}
use Rattle.std.proofs.lemmas.List.{length-take-le, length-drop, get_or-take, get_or-drop, take-append-drop, append-nil}
use Rattle.std.proofs.lemmas.List.Elements.{recursion_from_All, filter-append}
use Rattle.sqlite_trees.specs.Tree.{IsAscending}
use Rattle.sqlite_trees.proofs.ListLemmas.{ascending-get_or, filter_all, filter_none}
use Rattle.sqlite.specs.declared.types.Value.{Value}
use Rattle.sqlite.specs.declared.types.Value.TheVariants.{Null, Int, Real, Text, Blob}
use Rattle.sqlite.specs.Order.{Row, column, value_cmp}
use Rattle.sqlite_value.specs.Order.{class}
use Rattle.sqlite_value.proofs.OrderLemmas.{value_cmp-Text, value_cmp-apart, value_cmp_total}
use Rattle.scim_store_tables.specs.Lists.{is_text, has_text}
use Rattle.scim_store.specs.code.Damage.{IsPartedAt}

pub text_against : (v : Value) (bytes text : List ℕ) → Text bytes ≡ v → value_cmp v (Text text) ≡ slice_cmp nat_cmp bytes text
text_against v bytes text is = ap (λ x. value_cmp x (Text text)) (sym is) ∙ value_cmp-Text bytes text

pub low_against : (v : Value) (text : List ℕ) → class v < 2 → value_cmp v (Text text) ≡ Less
low_against v text low = value_cmp-apart v (Text text) (λ same. (let l : 2 < 2 = subst (λ n. n < 2) same low in omega (arith, l))) ∙ less (class v) low
  where
    less : (n : ℕ) → n < 2 → nat_cmp n 2 ≡ Less
    less zero h = refl
    less (suc zero) h = refl
    less (suc (suc n)) h = absurd (omega (arith, h))

pub high_against : (v : Value) (text : List ℕ) → class v ≡ 3 → value_cmp v (Text text) ≡ Greater
high_against v text is = value_cmp-apart v (Text text) (λ same. (let l : 2 ≡ 3 = sym same ∙ is in omega (arith, l))) ∙ ap (λ n. nat_cmp n 2) is

pub is_text_against : (text : List ℕ) (v : Value) → is_text text v ≡ is_eq (value_cmp v (Text text))
is_text_against text Null = sym (ap is_eq (low_against Null text (omega arith)))
is_text_against text (Int n) = sym (ap is_eq (low_against (Int n) text (omega arith)))
is_text_against text (Real x) = sym (ap is_eq (low_against (Real x) text (omega arith)))
is_text_against text (Text t) = sym (ap is_eq (value_cmp-Text t text))
is_text_against text (Blob b) = sym (ap is_eq (high_against (Blob b) text refl))

-- ---- rows in order of what they begin with

-- a row is no higher than one that follows it
abbrev Follows : Row → Row → Type 0
Follows a b = is_lt (ordering_then (value_cmp (column b 0) (column a 0)) Equal) ≡ false

lower_too : (a b t : Value) → is_lt (ordering_then (value_cmp b a) Equal) ≡ false → is_lt (value_cmp b t) ≡ true → is_lt (value_cmp a t) ≡ true
lower_too a b t up low = go (value_cmp b a) refl up
  where
    less : (o : Ordering) → is_lt o ≡ true → o ≡ Less
    less Less h = refl
    less Equal h = absurd cc
    less Greater h = absurd cc

    go : (o : Ordering) → value_cmp b a ≡ o → is_lt (ordering_then o Equal) ≡ false → is_lt (value_cmp a t) ≡ true
    go Less e h = absurd cc
    go Equal e h = ap is_lt (sym (value_cmp_total.congr b a t e)) ∙ low
    go Greater e h = ap is_lt (value_cmp_total.trans a b t (value_cmp_total.antisymm a b ∙ ap ordering_reverse e) (less _ low))

no_higher_too : (a b t : Value) → is_lt (ordering_then (value_cmp b a) Equal) ≡ false → is_le (value_cmp b t) ≡ true → is_le (value_cmp a t) ≡ true
no_higher_too a b t up low = go (value_cmp b a) refl up
  where
    under : (o : Ordering) → value_cmp b t ≡ o → is_le o ≡ true → value_cmp a b ≡ Less → value_cmp a t ≡ Less
    under Less e h less = value_cmp_total.trans a b t less e
    under Equal e h less = sym (alike_right value_cmp_total b t a e) ∙ less
    under Greater e h less = absurd cc

    go : (o : Ordering) → value_cmp b a ≡ o → is_lt (ordering_then o Equal) ≡ false → is_le (value_cmp a t) ≡ true
    go Less e h = absurd cc
    go Equal e h = ap is_le (sym (value_cmp_total.congr b a t e)) ∙ low
    go Greater e h = ap is_le (under (value_cmp b t) refl low (value_cmp_total.antisymm a b ∙ ap ordering_reverse e))

parted : (p : Row → Bool) → ((a b : Row) → Follows a b → p b ≡ true → p a ≡ true) → (rows : List Row) → IsAscending Follows rows → IsPartitionedBy p rows
parted p back rows up i j d low high pass = elim (eq-or-lt_of_le low) [ inl same ↦ subst (λ k. p (get_or rows k d) ≡ true) (sym same) pass | inr less ↦ back (get_or rows i d) (get_or rows j d) (ascending-get_or Follows rows i j d up less high) pass ]

-- how a row's first value compares to a text
abbrev pub against : List ℕ → Row → Ordering
against text row = value_cmp (column row 0) (Text text)

pub parted_below : (text : List ℕ) (rows : List Row) → IsAscending Follows rows → IsPartitionedBy (λ row. is_lt (against text row)) rows
parted_below text rows up = parted (λ row. is_lt (against text row)) (λ a b f low. lower_too (column a 0) (column b 0) (Text text) f low) rows up

pub parted_to : (text : List ℕ) (rows : List Row) → IsAscending Follows rows → IsPartitionedBy (λ row. is_le (against text row)) rows
parted_to text rows up = parted (λ row. is_le (against text row)) (λ a b f low. no_higher_too (column a 0) (column b 0) (Text text) f low) rows up

-- where no row that passes comes after one that fails, the rows beside a place tell of all
pub parted_at : (p : Row → Bool) (rows : List Row) (n : ℕ) → IsPartitionedBy p rows → IsPartedAt p rows n → IsPartitionPoint (λ r. p r ≡ true) (λ r. p r ≡ false) rows n
parted_at p rows n parted at = (
  λ k d from to. parted k (n - 1) d (omega arith) (omega (arith, at.within)) (at.before d (omega arith)),
  λ k d from to. false_from_ne_true (p (get_or rows k d)) (λ passes. true≢false (sym (parted n k d from to passes) ∙ at.behind d (omega arith))),
)

pub ascending-drop : (n : ℕ) (rows : List Row) → IsAscending Follows rows → IsAscending Follows (drop n rows)
ascending-drop zero rows up = up
ascending-drop (suc n) [] up = tt
ascending-drop (suc n) (r ∷ rows) up = ascending-drop n rows up.1

-- in front of the point no row passes, and behind it only those that do
in_front : (h : Row → Bool) (rows : List Row) (n : ℕ) → AllWithin (λ r. h r ≡ false) rows 0 n → n ≤ length rows → filter h (take n rows) ≡ []
in_front h rows n within fits =
    filter_none h (take n rows) (recursion_from_All (λ r. h r ≡ false) (take n rows) (λ k d low. (let small : k < n = omega (arith, low, length-take-le n rows fits) in subst (λ r. h r ≡ false) (sym (get_or-take n rows k d small)) (within k d (omega arith) small))))

all_in_front : (h : Row → Bool) (rows : List Row) (n : ℕ) → AllWithin (λ r. h r ≡ true) rows 0 n → n ≤ length rows → filter h (take n rows) ≡ take n rows
all_in_front h rows n within fits =
    filter_all h (take n rows) (recursion_from_All (λ r. h r ≡ true) (take n rows) (λ k d low. (let small : k < n = omega (arith, low, length-take-le n rows fits) in subst (λ r. h r ≡ true) (sym (get_or-take n rows k d small)) (within k d (omega arith) small))))

none_behind : (h : Row → Bool) (rows : List Row) (n : ℕ) → AllWithin (λ r. h r ≡ false) rows n (length rows) → filter h (drop n rows) ≡ []
none_behind h rows n within =
    filter_none h (drop n rows) (recursion_from_All (λ r. h r ≡ false) (drop n rows) (λ k d low. (let l = length-drop n rows in subst (λ r. h r ≡ false) (sym (get_or-drop n rows k d)) (within (n + k) d (omega arith) (omega (arith, low, l))))))

parts : (h : Row → Bool) (rows : List Row) (n : ℕ) → filter h rows ≡ filter h (take n rows) ++ filter h (drop n rows)
parts h rows n = ap (filter h) (sym (take-append-drop n rows)) ∙ filter-append h (take n rows) (drop n rows)

passes_between : (o : Ordering) → is_lt o ≡ false → is_le o ≡ true → is_eq o ≡ true
passes_between Less below to = absurd cc
passes_between Equal below to = refl
passes_between Greater below to = absurd cc

below_fails : (o : Ordering) → is_lt o ≡ true → is_eq o ≡ false
below_fails Less h = refl
below_fails Equal h = absurd cc
below_fails Greater h = refl

above_fails : (o : Ordering) → is_le o ≡ false → is_eq o ≡ false
above_fails Less h = refl
above_fails Equal h = absurd cc
above_fails Greater h = refl

pub above_no_more : (o : Ordering) → is_gt o ≡ true → is_le o ≡ false
above_no_more Less h = absurd cc
above_no_more Equal h = absurd cc
above_no_more Greater h = refl

pub run : (text : List ℕ) (rows : List Row) (s c : ℕ) → s ≤ length rows → c ≤ length (drop s rows)
    → IsPartitionPoint (λ r. is_lt (against text r) ≡ true) (λ r. is_lt (against text r) ≡ false) rows s
    → IsPartitionPoint (λ r. is_le (against text r) ≡ true) (λ r. is_le (against text r) ≡ false) (drop s rows) c
    → take c (drop s rows) ≡ filter (has_text 0 text) rows
run text rows s c low high one two =
    let test : Row → Bool = has_text 0 text in
    let l = length-drop s rows in
    let front : filter test (take s rows) ≡ [] = in_front test rows s (λ k d from to. is_text_against text (column (get_or rows k d) 0) ∙ below_fails _ (one.0 k d from to)) low in
    let here : filter test (take c (drop s rows)) ≡ take c (drop s rows) =
    all_in_front test (drop s rows) c (λ k d from to. is_text_against text (column (get_or (drop s rows) k d) 0)
    ∙ passes_between _ (subst (λ r. is_lt (against text r) ≡ false) (sym (get_or-drop s rows k d)) (one.1 (s + k) d (omega arith) (omega (arith, to, high, l)))) (two.0 k d from to)) high in
    let behind : filter test (drop c (drop s rows)) ≡ [] = none_behind test (drop s rows) c (λ k d from to. is_text_against text (column (get_or (drop s rows) k d) 0) ∙ above_fails _ (two.1 k d from to)) in
    sym (append-nil _) ∙ (λ i. sym here i ++ sym behind i) ∙ sym (parts test (drop s rows) c) ∙ (λ i. sym front i ++ filter test (drop s rows)) ∙ sym (parts test rows s)
