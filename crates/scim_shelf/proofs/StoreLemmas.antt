-- A change that may be made leaves a store a store.
use Rattle.std.proofs.Common.{◌≡◌, ◌≢◌, sym, subst, ℕ, List, [], ◌∷◌, arith}
use Rattle.std.specs.Prelude.{All, AllPairs, suc, zero}
use Rattle.std.specs.Ordering.{nat_cmp}
use Rattle.std.specs.declared.cmp.Ordering.TheVariants.{Less, Equal, Greater}
use Rattle.std.specs.Cmp.Lexicographic.{slice_cmp}
use Rattle.std.specs.List.Sorted.{IsStrictlySortedBy}
use Rattle.std.proofs.lemmas.Cmp.{tied_itself, nat_list_cmp_total}
use Rattle.std.proofs.lemmas.List.Elements.{All-nil, All-cons, All-head, All-tail, All-append, All-filter, All-weaker, All-from_recursion, recursion_from_All}
use Rattle.std.proofs.lemmas.List.Kept.{AllPairs-cons}
use Rattle.std.proofs.lemmas.Map.Keys.{sorted_tail}
use Rattle.std.proofs.lemmas.Map.Lookups.{exact_bytes}
use Rattle.scim_cell.specs.Content.{Content}
use Rattle.scim_cell.specs.Order.{id_cmp}
use Rattle.scim_value.specs.Resource.{IsResource, HasBase}
use Rattle.scim_value.specs.Uniqueness.{AreApart}
use Rattle.scim_audit.specs.declared.audit_rows.AuditRow.{AuditRow}
use Rattle.scim_shelf.specs.declared.changes.Change.TheVariants.{Keep, Remove}
use Rattle.scim_schema.specs.declared.Kind.{Kind}
use Rattle.scim_shelf.specs.Stores.{Store, IsStore, AreKeyed, HasPlace, below, above, keep, without, after}
use Rattle.scim_shelf.proofs.PlaceLemmas.{AreAbove, by_order, reversed, above_lower, later_above, keep_less, keep_equal, keep_greater, without_less, without_equal, without_greater}

-- what holds of all holds of those that are kept, and of those that are left
pub All-keep : (P : Content → Type 0) (c : Content) (cs : List Content) → P c → All P cs → All P (keep c cs)
All-keep P c cs here all =
    All-append P (below c.id cs) (c ∷ above c.id cs) (All-filter _ P cs all) (All-cons P c (above c.id cs) here (All-filter _ P cs all))

pub All-without : (P : Content → Type 0) (id : List ℕ) (cs : List Content) → All P cs → All P (without id cs)
All-without P id cs all = All-append P (below id cs) (above id cs) (All-filter _ P cs all) (All-filter _ P cs all)

sorted_cons : (c : Content) (cs : List Content) → AreAbove c.id cs → IsStrictlySortedBy id_cmp cs → IsStrictlySortedBy id_cmp (c ∷ cs)
unfolding IsStrictlySortedBy
sorted_cons c cs up sorted = (up, sorted)

sorted_nil : IsStrictlySortedBy id_cmp []
unfolding IsStrictlySortedBy
sorted_nil = tt

pub pairs_head : (c : Content) (cs : List Content) → AllPairs AreApart (c ∷ cs) → All (AreApart c) cs
pairs_head c cs apart = λ k d h. apart zero (suc k) d (omega arith) (omega arith)

pub pairs_tail : (c : Content) (cs : List Content) → AllPairs AreApart (c ∷ cs) → AllPairs AreApart cs
pairs_tail c cs apart = λ i j d h k. apart (suc i) (suc j) d (omega arith) (omega arith)

-- the parts of a list of keyed resources
pub keyed_cons : (c : Content) (cs : List Content) → AreAbove c.id cs → All (AreApart c) cs → AreKeyed cs → AreKeyed (c ∷ cs)
keyed_cons c cs up apart keyed = record { ascending = sorted_cons c cs up keyed.ascending; apart = AllPairs-cons AreApart c cs apart keyed.apart }

pub keyed_above : (c : Content) (cs : List Content) → AreKeyed (c ∷ cs) → AreAbove c.id cs
keyed_above c cs keyed = later_above c cs keyed.ascending

pub keyed_apart : (c : Content) (cs : List Content) → AreKeyed (c ∷ cs) → All (AreApart c) cs
keyed_apart c cs keyed = pairs_head c cs keyed.apart

pub keyed_tail : (c : Content) (cs : List Content) → AreKeyed (c ∷ cs) → AreKeyed cs
keyed_tail c cs keyed = record { ascending = sorted_tail id_cmp c cs keyed.ascending; apart = pairs_tail c cs keyed.apart }

pub keyed_nil : AreKeyed []
keyed_nil = record { ascending = sorted_nil; apart = λ i j d h k. absurd (omega arith) }

pub apart_back : (c d : Content) → AreApart c d → AreApart d c
apart_back c d apart = record { ids = λ same. apart.ids (sym same); names = λ n here there. apart.names n there here }

-- ids that don't compare as equal are two
pub ids_differ : (x y : List ℕ) → slice_cmp nat_cmp x y ≡ Less → x ≢ y
ids_differ x y less same =
    let tied : slice_cmp nat_cmp x y ≡ Equal = subst (λ (z : List ℕ). slice_cmp nat_cmp x z ≡ Equal) same (tied_itself nat_list_cmp_total x) in cc

-- those above an id have another
above_differ : (c : Content) (cs : List Content) → AreAbove c.id cs → All (λ d. d.id ≢ c.id) cs
above_differ c cs up =
    All-weaker (λ (d : Content). slice_cmp nat_cmp c.id d.id ≡ Less) (λ d. d.id ≢ c.id) (λ d less same. ids_differ c.id d.id less (sym same)) cs
    (All-from_recursion _ cs up)

pub All-both : (P Q R : Content → Type 0) → ((d : Content) → P d → Q d → R d) → (cs : List Content) → All P cs → All Q cs → All R cs
All-both P Q R both cs ps qs = λ k d h. both _ (ps k d h) (qs k d h)

-- a resource that has a place among others is apart from those of other ids
apart_from_above : (c : Content) (cs : List Content) → AreAbove c.id cs → All (λ d. d.id ≢ c.id → AreApart c d) cs → All (AreApart c) cs
apart_from_above c cs up place =
    All-both (λ d. d.id ≢ c.id) (λ d. d.id ≢ c.id → AreApart c d) (AreApart c) (λ d differs apart. apart differs) cs (above_differ c cs up) place

pub keep_keyed : (c : Content) (cs : List Content) → AreKeyed cs → All (λ d. d.id ≢ c.id → AreApart c d) cs → AreKeyed (keep c cs)
keep_keyed c [] keyed place = keyed_cons c [] tt (All-nil _) keyed_nil
keep_keyed c (d ∷ ds) keyed place = go (keep_keyed c ds (keyed_tail d ds keyed) (All-tail (λ x. x.id ≢ c.id → AreApart c x) d ds place))
  where
    up : AreAbove d.id ds
    up = keyed_above d ds keyed

    less : id_cmp c d ≡ Less → AreKeyed (keep c (d ∷ ds))
    less h =
        let all : AreAbove c.id (d ∷ ds) = (h, above_lower c.id d.id ds h up) in
        subst AreKeyed (sym (keep_less c d ds h up)) (keyed_cons c (d ∷ ds) all (apart_from_above c (d ∷ ds) all place) keyed)

    equal : id_cmp c d ≡ Equal → AreKeyed (keep c (d ∷ ds))
    equal h =
        let same : AreAbove c.id ds = subst (λ (x : List ℕ). AreAbove x ds) (sym (exact_bytes c.id d.id h)) up in
        subst AreKeyed (sym (keep_equal c d ds h up))
        (keyed_cons c ds same (apart_from_above c ds same (All-tail (λ x. x.id ≢ c.id → AreApart c x) d ds place)) (keyed_tail d ds keyed))

    greater : AreKeyed (keep c ds) → id_cmp c d ≡ Greater → AreKeyed (keep c (d ∷ ds))
    greater rest h =
        let under : slice_cmp nat_cmp d.id c.id ≡ Less = reversed c.id d.id Greater h in
        let beyond : AreAbove d.id (keep c ds) = recursion_from_All (λ x. slice_cmp nat_cmp d.id x.id ≡ Less) (keep c ds) (All-keep (λ x. slice_cmp nat_cmp d.id x.id ≡ Less) c ds under (All-from_recursion (λ x. slice_cmp nat_cmp d.id x.id ≡ Less) ds up)) in
        let apart : AreApart d c = apart_back c d (All-head (λ x. x.id ≢ c.id → AreApart c x) d ds place (ids_differ d.id c.id under)) in
        subst AreKeyed (sym (keep_greater c d ds h)) (keyed_cons d (keep c ds) beyond (All-keep (AreApart d) c ds apart (keyed_apart d ds keyed)) rest)

    go : AreKeyed (keep c ds) → AreKeyed (keep c (d ∷ ds))
    go rest = by_order (id_cmp c d) less equal (greater rest)

pub without_keyed : (id : List ℕ) (cs : List Content) → AreKeyed cs → AreKeyed (without id cs)
without_keyed id [] keyed = keyed_nil
without_keyed id (d ∷ ds) keyed = go (without_keyed id ds (keyed_tail d ds keyed))
  where
    up : AreAbove d.id ds
    up = keyed_above d ds keyed

    greater : AreKeyed (without id ds) → slice_cmp nat_cmp id d.id ≡ Greater → AreKeyed (without id (d ∷ ds))
    greater rest h =
        let beyond : AreAbove d.id (without id ds) = recursion_from_All (λ x. slice_cmp nat_cmp d.id x.id ≡ Less) (without id ds) (All-without (λ x. slice_cmp nat_cmp d.id x.id ≡ Less) id ds (All-from_recursion (λ x. slice_cmp nat_cmp d.id x.id ≡ Less) ds up)) in
        subst AreKeyed (sym (without_greater id d ds h)) (keyed_cons d (without id ds) beyond (All-without (AreApart d) id ds (keyed_apart d ds keyed)) rest)

    go : AreKeyed (without id ds) → AreKeyed (without id (d ∷ ds))
    go rest = by_order (slice_cmp nat_cmp id d.id)
        (λ h. subst AreKeyed (sym (without_less id d ds h up)) keyed)
        (λ h. subst AreKeyed (sym (without_equal id d ds h up)) (keyed_tail d ds keyed))
        (greater rest)

-- a store stays one where a resource below the base is kept in a place that it has, and where one goes
pub IsStore-keep : (base : List ℕ) (c : Content) (row : AuditRow) (store : Store)
    → IsStore base store → IsResource c × HasBase base c → HasPlace store.resources c → IsStore base (after (Keep c) row store)
IsStore-keep base c row store is sound place = record {
  sound = All-keep (λ x. IsResource x × HasBase base x) c store.resources sound is.sound;
  keyed = keep_keyed c store.resources is.keyed place.names;
}

pub IsStore-without : (base : List ℕ) (kind : Kind) (id : List ℕ) (row : AuditRow) (store : Store)
    → IsStore base store → IsStore base (after (Remove kind id) row store)
IsStore-without base kind id row store is = record {
  sound = All-without (λ x. IsResource x × HasBase base x) id store.resources is.sound;
  keyed = without_keyed id store.resources is.keyed;
}
