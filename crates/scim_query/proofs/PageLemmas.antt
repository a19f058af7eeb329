-- Entries in order are parts in order.
use Rattle.std.proofs.Common.{◌≡◌, ℕ, ◌+◌, ◌-◌, ◌<◌, Bool, true, false, cond, Option, List, [], ◌∷◌, All, map, length, take, drop, get_or, refl, sym, ap, ◌∙◌, arith, is_lt, Ordering}
use Rattle.std.specs.List.{filter}
use Rattle.std.specs.List.Sorted.{IsPermutation, IsSortedByKey, IsStableByKey, ties}
use Rattle.std.proofs.lemmas.List.{get_or-map, length-map, take-map, drop-map}
use Rattle.std.proofs.lemmas.List.Elements.{All-tail}
use Rattle.std.proofs.lemmas.List.Sorted.{IsPermutation-map, All-permutation, length_permutation}
use Rattle.scim_schema.specs.declared.Leaf.{Leaf}
use Rattle.scim_cell.specs.Content.{Content}
use Rattle.scim_cell.specs.Rows.{rows}
use Rattle.scim_query.specs.declared.matching_entries.Entry.{Entry}
use Rattle.scim_query.specs.declared.queries.Query.{Query}
use Rattle.scim_query.specs.Keys.{key_by}
use Rattle.scim_query.specs.Order.{rank_of, rank_cmp}
use Rattle.scim_query.specs.code.Entries.{parts_of, HasKey, entry_rank}
use Rattle.scim_query.specs.Pages.{IsInOrder, slice_of}

-- an order by key carries over to what a function gives, where that has the same keys
module _ {X Y K : Type 0} (f : X → Y) (of_x : X → K) (of_y : Y → K) (R : K → K → Ordering) (back : Y → X) where
  pub IsSortedByKey-map : (xs : List X) → All (λ x. of_y (f x) ≡ of_x x) xs → IsSortedByKey of_x R xs → IsSortedByKey of_y R (map f xs)
  IsSortedByKey-map xs alike sorted k d low high =
      let inside : k + 1 < length xs = omega (arith, length-map xs f) in
      rw (get_or-map f xs (k + 1) (back d) d inside, get_or-map f xs k (back d) d (omega arith), alike (k + 1) (back d) inside, alike k (back d) (omega arith))
      (sorted k (back d) low inside)

  chosen : (b c : Bool) (x : X) (xs : List X) (ys : List Y) → b ≡ c → ys ≡ map f xs → cond b (f x ∷ ys) ys ≡ map f (cond c (x ∷ xs) xs)
  chosen b true x xs ys same rest = rw same (ap (λ zs. f x ∷ zs) rest)
  chosen b false x xs ys same rest = rw same rest

  filter-map : (p : Y → Bool) (q : X → Bool) (xs : List X) → All (λ x. p (f x) ≡ q x) xs → filter p (map f xs) ≡ map f (filter q xs)
  filter-map p q [] alike = refl
  filter-map p q (x ∷ xs) alike = chosen (p (f x)) (q x) x _ _ (alike 0 x (omega arith)) (filter-map p q xs (All-tail (λ z. p (f z) ≡ q z) x xs alike))

  tied : (y : Y) (xs : List X) → of_x (back y) ≡ of_y y → All (λ x. of_y (f x) ≡ of_x x) xs
      → filter (ties (λ a b. is_lt (R (of_y a) (of_y b))) y) (map f xs) ≡ map f (filter (ties (λ a b. is_lt (R (of_x a) (of_x b))) (back y)) xs)
  tied y xs own alike = filter-map _ _ xs (λ k d inside. rw (alike k d inside, own) refl)

  IsStableByKey-map : (xs zs : List X) → ((y : Y) → of_x (back y) ≡ of_y y) → All (λ x. of_y (f x) ≡ of_x x) xs → All (λ x. of_y (f x) ≡ of_x x) zs
      → IsStableByKey of_x R xs zs → IsStableByKey of_y R (map f xs) (map f zs)
  IsStableByKey-map xs zs own alike alike_too stable y =
      tied y zs (own y) alike_too ∙ ap (map f) (stable (back y)) ∙ sym (tied y xs (own y) alike)

-- the entry of a part
abbrev entry_of : Option Leaf → Content → Entry
entry_of sort_by p = record { key = key_by sort_by (rows p); part = record { ref_ptr = (0, 0); now = p } }

ranks_alike : (sort_by : Option Leaf) (es : List Entry) → All (HasKey sort_by) es → All (λ (e : Entry). rank_of sort_by e.part.now ≡ entry_rank e) es
ranks_alike sort_by es keys k d inside = ap (λ key. (key, (get_or es k d).part.now.id)) (sym (keys k d inside))

pub in_order_from_entries : (query : Query) (found : List Content) (es fs : List Entry) → parts_of es ≡ found → All (HasKey query.sort_by) es
    → IsPermutation es fs → IsSortedByKey entry_rank (rank_cmp query.descending) fs → IsStableByKey entry_rank (rank_cmp query.descending) es fs
    → IsInOrder query found (parts_of fs)
in_order_from_entries query found es fs whole keys members sorted stable =
    let part : Entry → Content = λ e. e.part.now in
    let by = query.sort_by in
    let before = ranks_alike by es keys in
    let after = ranks_alike by fs (All-permutation (HasKey by) es fs members keys) in
    rw (← whole)
    (record {
      members = IsPermutation-map part es fs members;
      in_order = IsSortedByKey-map part entry_rank (rank_of by) (rank_cmp query.descending) (entry_of by) fs after sorted;
      stable = IsStableByKey-map part entry_rank (rank_of by) (rank_cmp query.descending) (entry_of by) es fs (λ p. refl) before after stable;
    })

pub total_from_entries : (found : List Content) (es fs : List Entry) → parts_of es ≡ found → IsPermutation es fs → length fs ≡ length found
total_from_entries found es fs whole members =
    length_permutation es fs members ∙ sym (length-map es (λ (e : Entry). e.part.now)) ∙ ap length whole

pub slice_from_entries : (start count : ℕ) (fs : List Entry) → parts_of (take count (drop (start - 1) fs)) ≡ slice_of start count (parts_of fs)
slice_from_entries start count fs =
    let part : Entry → Content = λ e. e.part.now in
    sym (ap (take count) (drop-map part (start - 1) fs) ∙ take-map part count (drop (start - 1) fs))
