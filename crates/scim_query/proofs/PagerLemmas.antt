-- A pager after one more part, and at its end.
use Rattle.std.proofs.Common.{◌≡◌, ℕ, ◌+◌, ◌-◌, Bool, true, false, Option, Some, None, List, [], ◌∷◌, ◌++◌, length, map, take, drop, subst, get_or, refl, sym, ap, ◌∙◌, is_lt, true≢false}
use Rattle.std.specs.Option.{is_some}
use Rattle.std.specs.Cmp.{IsStrictWeakOrder}
use Rattle.std.specs.List.Sorted.{IsSorted, IsSortedBy}
use Rattle.std.proofs.lemmas.List.{append-nil, drop-take, take-map, drop-map, map-append}
use Rattle.std.proofs.lemmas.List.Elements.{filter-append}
use Rattle.std.proofs.lemmas.List.Kept.{IsSortedBy-filter}
use Rattle.std.proofs.lemmas.List.Sorted.{IsPermutation-refl, ranks_by}
use Rattle.scim_schema.specs.declared.Leaf.{Leaf}
use Rattle.scim_cell.specs.Content.{Content}
use Rattle.scim_cell.specs.Order.{id_cmp}
use Rattle.scim_query.specs.declared.queries.Query.{Query}
use Rattle.scim_query.specs.declared.kept_parts.KeptPart.{KeptPart}
use Rattle.scim_query.specs.declared.pagers.Pager.{Pager}
use Rattle.scim_query.specs.Order.{part_cmp, rank_of, rank_cmp}
use Rattle.scim_query.specs.Pages.{is_match, matching, IsInOrder, slice_of}
use Rattle.scim_query.specs.Pagers.{keyed, Holds, HoldsFirst, HasTaken, most_held, ComeInOrder}
use Rattle.scim_query.specs.Arranged.{placed, before}
use Rattle.scim_query.specs.code.Kept.{kept_rank, kept_cmp, comes_before}
use Rattle.scim_query.proofs.OrderLemmas.{rank_cmp_total}
use Rattle.scim_query.proofs.PageLemmas.{IsSortedByKey-map}
use Rattle.scim_query.proofs.PlacedLemmas.{IsSortedBy-take, take_placed, placed-map, members_more, sorted_placed, stable_more}

before_is_order : (query : Query) → IsStrictWeakOrder (before query)
before_is_order query = ranks_by (rank_cmp_total query.descending) (rank_of query.sort_by)

pub in_order_more : (query : Query) (found sorted : List Content) (p : Content) → IsInOrder query found sorted → IsInOrder query (found ++ p ∷ []) (placed (before query) p sorted)
in_order_more query found sorted p is = record {
  members = members_more (before query) p found sorted is.members;
  in_order = sorted_placed (before query) (before_is_order query) p sorted is.in_order;
  stable = stable_more (before query) (before_is_order query) p found sorted is.in_order is.stable;
}

-- parts in order have keys in order
keyed_in_order : (query : Query) (ps : List Content) → IsSortedBy (before query) ps → IsSorted (kept_cmp query.descending) (map (keyed query.sort_by) ps)
keyed_in_order query ps up =
    IsSortedByKey-map (keyed query.sort_by) (rank_of query.sort_by) kept_rank (rank_cmp query.descending) (λ (k : KeptPart). k.part) ps (λ k d inside. refl) up

module _ (query : Query) (found : List Content) (p : Content) where
  abbrev room : ℕ
  room = query.start - 1 + query.count

  first_in_order : (held : List KeptPart) (h : HoldsFirst query found held) → IsSorted (kept_cmp query.descending) held
  first_in_order held h = rw h.first (keyed_in_order query (take room h.sorted) (IsSortedBy-take (before query) room h.sorted h.is_sorted.in_order))

  -- those that may come on the page or before it, after one more
  pub first_more : (held after : List KeptPart) → HoldsFirst query found held
      → (IsSorted (kept_cmp query.descending) held → after ≡ take room (placed (comes_before query.descending) (keyed query.sort_by p) held))
      → HoldsFirst query (found ++ p ∷ []) after
  first_more held after h step =
      let lt = before query in
      let by = keyed query.sort_by in
      let some = take room h.sorted in
      record {
        sorted = placed lt p h.sorted;
        is_sorted = in_order_more query found h.sorted p h.is_sorted;
        first = step (first_in_order held h)
            ∙ ap (λ (ks : List KeptPart). take room (placed (comes_before query.descending) (by p) ks)) h.first
            ∙ ap (take room) (placed-map by (comes_before query.descending) p some)
            ∙ take-map by room (placed lt p some)
            ∙ ap (map by) (take_placed lt room p h.sorted);
      }

  abbrev slice_kept : List KeptPart → List KeptPart
  slice_kept ks = take query.count (drop (query.start - 1) ks)

  slice_keyed : (ps : List Content) → slice_kept (map (keyed query.sort_by) ps) ≡ map (keyed query.sort_by) (slice_of query.start query.count ps)
  slice_keyed ps = ap (take query.count) (drop-map (keyed query.sort_by) (query.start - 1) ps) ∙ take-map (keyed query.sort_by) query.count (drop (query.start - 1) ps)

  -- those of the page, after one more
  pub page_more : (held after : List KeptPart) → held ≡ map (keyed query.sort_by) (slice_of query.start query.count found)
      → (held ≡ slice_kept (map (keyed query.sort_by) found) → after ≡ slice_kept (map (keyed query.sort_by) found ++ keyed query.sort_by p ∷ []))
      → after ≡ map (keyed query.sort_by) (slice_of query.start query.count (found ++ p ∷ []))
  page_more held after is step =
      step (is ∙ sym (slice_keyed found)) ∙ ap slice_kept (sym (map-append (keyed query.sort_by) found (p ∷ []))) ∙ slice_keyed (found ++ p ∷ [])

-- which of the two is held
module _ (query : Query) (found : List Content) (held : List KeptPart) where
  abbrev IsPageOf : Type 0
  IsPageOf = held ≡ map (keyed query.sort_by) (slice_of query.start query.count found)

  pub page_held : (by : Option Leaf) → is_some by ≡ false → Holds by query found held → IsPageOf
  page_held None e h = h
  page_held (Some l) e h = absurd (true≢false e)

  pub page_holds : (by : Option Leaf) → is_some by ≡ false → IsPageOf → Holds by query found held
  page_holds None e h = h
  page_holds (Some l) e h = absurd (true≢false e)

  pub first_held : (by : Option Leaf) → is_some by ≡ true → Holds by query found held → HoldsFirst query found held
  first_held None e h = absurd (true≢false (sym e))
  first_held (Some l) e h = h

  pub first_holds : (by : Option Leaf) → is_some by ≡ true → HoldsFirst query found held → Holds by query found held
  first_holds None e h = absurd (true≢false (sym e))
  first_holds (Some l) e h = h

-- so many are held at most
module _ (query : Query) where
  pub most_first : is_some query.sort_by ≡ true → most_held query ≡ query.start - 1 + query.count
  most_first some = rw some refl

  pub most_on_page : is_some query.sort_by ≡ false → most_held query ≡ query.count
  most_on_page none = rw none refl

pub none_of : (by : Option Leaf) → is_some by ≡ false → by ≡ None
none_of None e = refl
none_of (Some l) e = absurd (true≢false e)

-- without a leaf to sort by, the order is that of ids
by_id : (query : Query) → query.sort_by ≡ None → (p q : Content) → part_cmp query.sort_by query.descending p q ≡ id_cmp p q
by_id query none p q = rw none (go query.descending)
  where
    go : (b : Bool) → part_cmp None b p q ≡ id_cmp p q
    go true = refl
    go false = refl

-- so a list in order of id is in the order that is asked for
pub in_order_of_id : (query : Query) (ps : List Content) → query.sort_by ≡ None → ComeInOrder query ps → IsInOrder query (matching query.filter ps) (matching query.filter ps)
in_order_of_id query ps none order = record {
  members = IsPermutation-refl (matching query.filter ps);
  in_order = IsSortedBy-filter (before query) (before_is_order query) (is_match query.filter) ps (λ k d low high. ap is_lt (by_id query none (get_or ps (k + 1) d) (get_or ps k d)) ∙ order none k d low high);
  stable = λ z. refl;
}

parts_keyed : (sort_by : Option Leaf) (ps : List Content) → map (λ (k : KeptPart). k.part) (map (keyed sort_by) ps) ≡ ps
parts_keyed sort_by [] = refl
parts_keyed sort_by (p ∷ ps) = ap (λ (t : List Content). p ∷ t) (parts_keyed sort_by ps)

pub ended_on_page : (query : Query) (found : List Content) (held : List KeptPart) → held ≡ map (keyed query.sort_by) (slice_of query.start query.count found)
    → map (λ (k : KeptPart). k.part) (drop 0 held) ≡ slice_of query.start query.count found
ended_on_page query found held is = ap (λ (ks : List KeptPart). map (λ (k : KeptPart). k.part) ks) is ∙ parts_keyed query.sort_by (slice_of query.start query.count found)

pub ended_in_order : (query : Query) (found : List Content) (held : List KeptPart) (h : HoldsFirst query found held)
    → map (λ (k : KeptPart). k.part) (drop (query.start - 1) held) ≡ slice_of query.start query.count h.sorted
ended_in_order query found held h =
    let part : KeptPart → Content = λ k. k.part in
    let n = query.start - 1 in
    sym (drop-map part n held) ∙ ap (λ (ks : List KeptPart). drop n (map part ks)) h.first
    ∙ ap (drop n) (parts_keyed query.sort_by (take (n + query.count) h.sorted)) ∙ drop-take n query.count h.sorted

-- a pager that has taken some parts has also taken them with a part that doesn't match
pub taken_unmatched : (pager : Pager) (parts : List Content) (p : Content) → is_match pager.query.now.filter p ≡ false → HasTaken parts pager → HasTaken (parts ++ p ∷ []) pager
taken_unmatched pager parts p fails was =
    let query = pager.query.now in
    let found = matching query.filter parts in
    let none : found ++ matching query.filter (p ∷ []) ≡ found = rw fails (append-nil found) in
    let same : found ≡ matching query.filter (parts ++ p ∷ []) = sym (filter-append (is_match query.filter) parts (p ∷ []) ∙ none) in
    record {
      total = was.total ∙ ap length same;
      held = subst (λ (ps : List Content). Holds query.sort_by query ps pager.held.items) same was.held;
    }
