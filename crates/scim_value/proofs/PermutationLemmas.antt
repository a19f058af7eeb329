-- Cells in another order.
use Rattle.std.proofs.Common.{◌≡◌, ℕ, zero, suc, ◌+◌, ◌≤◌, refl, sym, ◌∙◌, ap, subst, inl, inr, arith, true, false, List, [], ◌∷◌, get_or}
use Rattle.std.specs.Prelude.{if◌then◌else◌, All, Any}
use Rattle.std.specs.List.{sum_by}
use Rattle.std.specs.List.Sorted.{IsPermutation, IsSortedBy}
use Rattle.std.proofs.lemmas.Bool.{cases_Bool}
use Rattle.std.proofs.lemmas.List.Elements.{All-cons, All-nil, All-head, All-tail, All-weaker}
use Rattle.std.proofs.lemmas.List.Sums.{sum_by-cons}
use Rattle.std.proofs.lemmas.List.Sorted.{All-permutation, Contains-permutation, IsPermutation-sym, sum_by-IsPermutation}
use Rattle.std.specs.declared.cmp.Ordering.{Ordering}
use Rattle.std.specs.declared.cmp.Ordering.TheVariants.{Less, Equal, Greater}
use Rattle.std.specs.Ordering.{is_lt, is_eq, is_gt, ordering_reverse}
use Rattle.std.specs.Cmp.{tied_itself, upto}
use Rattle.std.specs.FinMap.{is_sorted, entries, from_sorted}
use Rattle.std.specs.FinMap.Entries.{below_all}
use Rattle.scim_schema.specs.declared.Kind.{Kind}
use Rattle.scim_cell.specs.declared.places.Place.{Place}
use Rattle.scim_cell.specs.declared.cells.Cell.{Cell}
use Rattle.scim_cell.specs.Place.{place_cmp}
use Rattle.scim_cell.specs.Content.{Entry, place_of, entries_of, IsOfKind, StandsInLine, ArePartCells, AreSortedPartCells, AreCellsOfAPart}
use Rattle.scim_value.proofs.PartLemmas.{entries-from_true}
use Rattle.scim_value.proofs.OrderLemmas.{eq_is}
use Rattle.scim_value.proofs.PlaceLemmas.{place_total, place_same}
use Rattle.scim_value.proofs.ChainLemmas.{NotAfter, and_true, and_first, and_second, is_less}

-- how many cells stand at a place
abbrev pub tie_at : Place → Entry → ℕ
tie_at p e = if is_eq (place_cmp p e.0) then 1 else 0

abbrev pub count_at : Place → List Entry → ℕ
count_at p es = sum_by (tie_at p) es

less_tie : (p : Place) (e : Entry) → place_cmp p e.0 ≡ Less → tie_at p e ≡ 0
less_tie p e h = rw h refl

none_above : (p : Place) (es : List Entry) → below_all place_cmp p es ≡ true → count_at p es ≡ 0
none_above p [] h = refl
none_above p (e ∷ es) h =
    let t : tie_at p e ≡ 0 = less_tie p e (is_less _ (and_first _ _ h)) in
    let rest : count_at p es ≡ 0 = none_above p es (and_second _ _ h) in
    sum_by-cons (tie_at p) e es ∙ (λ i. t i + rest i)

-- in order of place, one at most
pub once_sorted : (p : Place) (es : List Entry) → is_sorted place_cmp es ≡ true → count_at p es ≤ 1
once_sorted p [] h = omega arith
once_sorted p (e ∷ es) h =
    let ih : count_at p es ≤ 1 = once_sorted p es (and_second _ _ h) in
    let sum : count_at p (e ∷ es) ≡ tie_at p e + count_at p es = sum_by-cons (tie_at p) e es in
    elim (cases_Bool (is_eq (place_cmp p e.0))) [
      | inl t ↦
          let same : p ≡ e.0 = place_same p e.0 (eq_is _ t) in
          let rest : count_at p es ≡ 0 = none_above p es (subst (λ (q : Place). below_all place_cmp q es ≡ true) (sym same) (and_first _ _ h)) in
          let one : tie_at p e ≡ 1 = rw t refl in
          omega (arith, sum, rest, one)
      | inr n ↦
          let none : tie_at p e ≡ 0 = rw n refl in
          omega (arith, sum, ih, none)
    ]

-- each not after the next
abbrev pub IsWeaklySorted : List Entry → Type 0
IsWeaklySorted [] = Unit {0}
IsWeaklySorted (e ∷ []) = Unit {0}
IsWeaklySorted (e ∷ f ∷ es) = NotAfter e.0 f.0 × IsWeaklySorted (f ∷ es)

first_least : (e : Entry) (es : List Entry) → IsWeaklySorted (e ∷ es) → All (λ f. NotAfter e.0 f.0) es
first_least e [] h = All-nil (λ (f : Entry). NotAfter e.0 f.0)
first_least e (f ∷ es) h =
    All-cons (λ (g : Entry). NotAfter e.0 g.0) f es h.0
    (All-weaker (λ (g : Entry). NotAfter f.0 g.0) (λ (g : Entry). NotAfter e.0 g.0) (λ g n. upto place_total e.0 f.0 g.0 h.0 n) es (first_least f es h.1))

weak_tail : (e : Entry) (es : List Entry) → IsWeaklySorted (e ∷ es) → IsWeaklySorted es
weak_tail e [] h = tt
weak_tail e (f ∷ es) h = h.1

less_of : (o : Ordering) → is_gt o ≡ false → is_eq o ≡ false → is_lt o ≡ true
less_of Less g e = refl
less_of Equal g e = cc
less_of Greater g e = cc

all_below : (p : Place) (es : List Entry) → All (λ f. NotAfter p f.0) es → count_at p es ≡ 0 → below_all place_cmp p es ≡ true
all_below p [] h n = refl
all_below p (e ∷ es) h n =
    let sum : count_at p (e ∷ es) ≡ tie_at p e + count_at p es = sum_by-cons (tie_at p) e es in
    let rest : count_at p es ≡ 0 = omega (arith, sum, n) in
    let none : is_eq (place_cmp p e.0) ≡ false = elim (cases_Bool (is_eq (place_cmp p e.0))) [
      | inl t ↦ (let one : tie_at p e ≡ 1 = rw t refl in absurd (omega (arith, sum, n, one)))
      | inr f ↦ f
    ] in
    let less : place_cmp p e.0 ≡ Less = is_less _ (less_of _ (All-head (λ (f : Entry). NotAfter p f.0) e es h) none) in
    and_true _ _ (rw less refl) (all_below p es (All-tail (λ (f : Entry). NotAfter p f.0) e es h) rest)

-- weakly in order, and at each place one at most: in order
pub sorted_once : (es : List Entry) → IsWeaklySorted es → ((p : Place) → count_at p es ≤ 1) → is_sorted place_cmp es ≡ true
sorted_once [] h c = refl
sorted_once (e ∷ es) h c =
    let sum : (p : Place) → count_at p (e ∷ es) ≡ tie_at p e + count_at p es = λ p. sum_by-cons (tie_at p) e es in
    let one : tie_at e.0 e ≡ 1 = (let t : place_cmp e.0 e.0 ≡ Equal = tied_itself place_total e.0 in rw t refl) in
    let none : count_at e.0 es ≡ 0 = omega (arith, sum e.0, c e.0, one) in
    and_true _ _ (all_below e.0 es (first_least e es h) none)
    (sorted_once es (weak_tail e es h) (λ p. (let s = sum p in let m = c p in omega (arith, s, m))))

turned : (o : Ordering) → is_lt (ordering_reverse o) ≡ false → is_gt o ≡ false
turned Less e = refl
turned Equal e = refl
turned Greater e = cc

-- what a sort by place gives
pub weakly_sorted : (cells : List Cell) → IsSortedBy (λ x y. is_lt (place_cmp (place_of x) (place_of y))) cells → IsWeaklySorted (entries_of cells)
weakly_sorted [] h = tt
weakly_sorted (c ∷ []) h = tt
weakly_sorted (c ∷ d ∷ cells) h = (
  turned _ (ap is_lt (sym (place_total.antisymm (place_of d) (place_of c))) ∙ h zero c (omega arith) (omega arith)),
  weakly_sorted (d ∷ cells) (λ k x a b.
      (let next : suc k + 1 ≡ suc (k + 1) = omega arith in
      subst (λ (n : ℕ). is_lt (place_cmp (place_of (get_or (c ∷ d ∷ cells) n x)) (place_of (get_or (d ∷ cells) k x))) ≡ false) next (h (suc k) x (omega arith) (omega arith)))),
)

any_moved : (P : Entry → Type 0) (xs ys : List Entry) → IsPermutation xs ys → Any P xs → Any P ys
any_moved P xs ys s h =
    let there = Contains-permutation xs ys h.1 s (h.0, h.2, h.3) in
    (there.0, h.1, there.1, there.2, h.4)

-- a part's cells are a part's in any order
pub part_cells_moved : (kind : Kind) (xs ys : List Entry) → IsPermutation xs ys → ArePartCells kind xs → ArePartCells kind ys
part_cells_moved kind xs ys s h = record {
  of_kind = All-permutation (IsOfKind kind) xs ys s h.of_kind;
  in_line = All-weaker (λ (e : Entry). StandsInLine xs e.0) (λ (e : Entry). StandsInLine ys e.0)
      (λ e l. elim l [ inl z ↦ inl z | inr m ↦ inr (m.0, any_moved _ xs ys s m.1) ])
      ys (All-permutation (λ (e : Entry). StandsInLine xs e.0) xs ys s h.in_line);
}

-- where a part has these cells, a sort puts them into its order
pub sorted_part : (kind : Kind) (es sorted own : List Entry) → is_sorted place_cmp own ≡ true → ArePartCells kind own → IsPermutation es own → IsPermutation es sorted → IsWeaklySorted sorted
    → (is_sorted place_cmp sorted ≡ true) × ArePartCells kind sorted
sorted_part kind es sorted own o h to_own to_sorted weak =
    let back = part_cells_moved kind own es (IsPermutation-sym es own to_own) h in (
      sorted_once sorted weak (λ p.
          (let a : count_at p own ≡ count_at p es = sum_by-IsPermutation (tie_at p) es own to_own in
          let b : count_at p sorted ≡ count_at p es = sum_by-IsPermutation (tie_at p) es sorted to_sorted in
          let m : count_at p own ≤ 1 = once_sorted p own o in
          omega (arith, a, b, m))),
      part_cells_moved kind es sorted to_sorted back,
    )

-- some part has cells that stand in order of place
pub cells_of_a_part : (kind : Kind) (es sorted : List Entry) → AreSortedPartCells kind sorted → IsPermutation es sorted → AreCellsOfAPart kind es
cells_of_a_part kind es sorted h moved =
    let own : entries (from_sorted {R = place_cmp} sorted) ≡ sorted = entries-from_true sorted h.0 in
    (record { kind = kind; id = []; cells = from_sorted sorted }, refl, subst (ArePartCells kind) (sym own) h.1, subst (IsPermutation es) (sym own) moved)
