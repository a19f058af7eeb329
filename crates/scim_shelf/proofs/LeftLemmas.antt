-- How a collection is made of resources that come in any order.
use Rattle.std.proofs.Common.{◌≡◌, ◌≢◌, refl, sym, ◌∙◌, ap, subst, ℕ, List, [], ◌∷◌, ◌++◌, append_assoc, arith}
use Rattle.std.specs.Prelude.{All, AllPairs, Some}
use Rattle.std.specs.Ordering.{nat_cmp}
use Rattle.std.specs.Cmp.Lexicographic.{slice_cmp}
use Rattle.std.specs.List.Sorted.{IsPermutation}
use Rattle.std.proofs.lemmas.List.Elements.{All-nil, All-cons, All-head, All-tail, All-pop, All-weaker}
use Rattle.std.proofs.lemmas.List.{append-nil}
use Rattle.std.proofs.lemmas.List.Kept.{AllPairs-cons}
use Rattle.std.proofs.lemmas.List.Sorted.{IsPermutation-refl, IsPermutation-sym, IsPermutation-trans, IsPermutation-middle, IsPermutation-append_right}
use Rattle.std.proofs.lemmas.Map.Lookups.{exact_bytes}
use Rattle.scim_cell.specs.Content.{Content}
use Rattle.scim_value.specs.Uniqueness.{AreApart}
use Rattle.scim_shelf.specs.Stores.{AreKeyed, HasPlace, below, above, keep, without}
use Rattle.scim_shelf.specs.Indexed.{AreLeft}
use Rattle.scim_shelf.proofs.PlaceLemmas.{by_order, without_less, without_greater}
use Rattle.scim_shelf.proofs.StoreLemmas.{All-both, All-keep, pairs_head, pairs_tail, keyed_above, keyed_tail}

-- where no resource has the id, all stay
without_absent : (id : List ℕ) (cs : List Content) → AreKeyed cs → All (λ d. d.id ≢ id) cs → without id cs ≡ cs
without_absent id [] keyed absent = refl
without_absent id (d ∷ ds) keyed absent = go (without_absent id ds (keyed_tail d ds keyed) (All-tail (λ x. x.id ≢ id) d ds absent))
  where
    go : without id ds ≡ ds → without id (d ∷ ds) ≡ d ∷ ds
    go rest =
        by_order (slice_cmp nat_cmp id d.id)
        (λ h. without_less id d ds h (keyed_above d ds keyed))
        (λ h. absurd (All-head (λ x. x.id ≢ id) d ds absent (sym (exact_bytes id d.id h))))
        (λ h. without_greater id d ds h ∙ ap (λ (xs : List Content). d ∷ xs) rest)

-- a new one is kept beside the others
keep_members : (c : Content) (cs : List Content) → AreKeyed cs → All (λ d. d.id ≢ c.id) cs → IsPermutation (c ∷ cs) (keep c cs)
keep_members c cs keyed absent =
    subst (λ (xs : List Content). IsPermutation (c ∷ xs) (keep c cs)) (without_absent c.id cs keyed absent)
    (IsPermutation-sym (keep c cs) (c ∷ without c.id cs) (IsPermutation-middle (below c.id cs) c (above c.id cs)))

pairs_front : (xs : List Content) (c : Content) → AllPairs AreApart (xs ++ c ∷ []) → AllPairs AreApart xs × All (λ x. AreApart x c) xs
pairs_front [] c apart = ((λ i j d h k. absurd (omega arith)), All-nil _)
pairs_front (x ∷ xs) c apart =
    let rest = pairs_front xs c (pairs_tail x (xs ++ c ∷ []) apart) in
    let first = All-pop (AreApart x) (xs ++ c ∷ []) xs (Some c) refl (pairs_head x (xs ++ c ∷ []) apart) in
    (AllPairs-cons AreApart x xs first.0 rest.0, All-cons (λ y. AreApart y c) x xs first.1 rest.1)

-- the last of those that are left has a place among those that have been kept
pub last_place : (all left cs : List Content) (c : Content) → AreLeft all (left ++ c ∷ []) cs → HasPlace cs c
last_place all left cs c h =
    let apart : All (AreApart c) cs = (All-pop (λ d. All (AreApart d) cs) (left ++ c ∷ []) left (Some c) refl h.across).1 in
    record {
      kinds = All-weaker (AreApart c) (λ d. d.id ≡ c.id → d.kind ≡ c.kind) (λ d other same. absurd (other.ids (sym same))) cs apart;
      names = All-weaker (AreApart c) (λ d. d.id ≢ c.id → AreApart c d) (λ d other differs. other) cs apart;
    }

-- and is kept
pub last_kept : (all left cs : List Content) (c : Content) → AreKeyed cs → AreLeft all (left ++ c ∷ []) cs → AreLeft all left (keep c cs)
last_kept all left cs c keyed h =
    let across = All-pop (λ d. All (AreApart d) cs) (left ++ c ∷ []) left (Some c) refl h.across in
    let front = pairs_front left c h.apart in
    let apart : All (AreApart c) cs = across.1 in
    let absent : All (λ d. d.id ≢ c.id) cs = All-weaker (AreApart c) (λ d. d.id ≢ c.id) (λ d other same. other.ids (sym same)) cs apart in
    let order : IsPermutation all (left ++ c ∷ cs) = subst (λ (xs : List Content). IsPermutation all xs) (append_assoc left (c ∷ []) cs) h.members in
    record {
      members = IsPermutation-trans all (left ++ c ∷ cs) (left ++ keep c cs) order (IsPermutation-append_right left (c ∷ cs) (keep c cs) (keep_members c cs keyed absent));
      apart = front.0;
      across = All-both (λ d. All (AreApart d) cs) (λ d. AreApart d c) (λ d. All (AreApart d) (keep c cs)) (λ d others one. All-keep (AreApart d) c cs one others) left across.0 front.1;
    }

-- at first all are left
pub all_left : (all : List Content) → AllPairs AreApart all → AreLeft all all []
all_left all apart = record {
  members = subst (λ (xs : List Content). IsPermutation all xs) (sym (append-nil all)) (IsPermutation-refl all);
  apart = apart;
  across = λ k d h. All-nil _;
}
