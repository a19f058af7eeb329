-- The resources with some ids, found by the ids.
use Rattle.std.proofs.Common.{◌≡◌, refl, sym, ◌∙◌, ap, subst, ℕ, Bool, false, List, [], ◌∷◌, ◌++◌, map, arith}
use Rattle.std.specs.Prelude.{All, find, filter, Option, None, Some}
use Rattle.std.specs.Ordering.{nat_cmp}
use Rattle.std.specs.declared.cmp.Ordering.TheVariants.{Less, Equal, Greater}
use Rattle.std.specs.Cmp.Lexicographic.{slice_cmp}
use Rattle.std.specs.List.{list_any, AllByRecursion, FoldsTo}
use Rattle.std.specs.List.Sorted.{IsStrictlySortedBy}
use Rattle.std.specs.BTreeMap.{is_at}
use Rattle.std.specs.BTreeSet.{BTreeSet, contains}
use Rattle.std.proofs.lemmas.Cmp.{nat_list_cmp_total}
use Rattle.std.proofs.lemmas.List.{map_push}
use Rattle.std.proofs.lemmas.List.Elements.{filter-append, All-nil, All-cons, All-head, All-tail, All-weaker, All-from_recursion}
use Rattle.std.proofs.lemmas.Map.Keys.{sorted_head, sorted_tail}
use Rattle.std.proofs.lemmas.Map.Lookups.{exact_bytes}
use denote.Ref.{Bor}
use Rattle.scim_cell.specs.Content.{Content}
use Rattle.scim_schema.specs.declared.Kind.{Kind}
use Rattle.scim_cell.specs.Kinds.{is_of, of_kind}
use Rattle.scim_value.specs.declared.uniqueness.UniqueName.{UniqueName}
use Rattle.scim_shelf.specs.Stores.{AreKeyed}
use Rattle.scim_shelf.specs.declared.collections.Collection.{Collection}
use Rattle.scim_shelf.specs.declared.text_index.Holders.{Holders}
use Rattle.scim_shelf.specs.declared.text_index.Holders.TheVariants.{One, Several}
use Rattle.scim_shelf.specs.Collections.{IsCollection}
use Rattle.scim_shelf.specs.IndexedTexts.{is_under, is_under_in}
use Rattle.scim_shelf.specs.TextIndex.{is_same, holders_at, has_in}
use Rattle.scim_shelf.specs.Indexed.{has_id, before, picked}
use Rattle.scim_shelf.proofs.PlaceLemmas.{AreAbove, by_order, reversed, above_lower}
use Rattle.scim_shelf.proofs.StoreLemmas.{All-both, keyed_above, keyed_tail}
use Rattle.scim_shelf.proofs.NameLemmas.{by_bool, none_above}
use Rattle.scim_shelf.proofs.NotedLemmas.{id_itself, same_flips}
use Rattle.scim_shelf.proofs.ValueLemmas.{or_false}

-- whether an id is among others
abbrev pub is_listed : List ℕ → List (List ℕ) → Bool
is_listed id ids = list_any (is_at (slice_cmp nat_cmp id)) ids

-- the resources whose ids are among these
abbrev pub listed : List (List ℕ) → List Content → List Content
listed ids cs = filter (λ c. is_listed c.id ids) cs

-- these ids are above an id
abbrev IdsAbove : List ℕ → List (List ℕ) → Type 0
IdsAbove id ids = AllByRecursion (λ other. slice_cmp nat_cmp id other ≡ Less) ids

-- ids ascend
abbrev pub Ascend : List (List ℕ) → Type 0
Ascend ids = IsStrictlySortedBy (slice_cmp nat_cmp) ids

-- one id ascends
one_ascends : (id : List ℕ) → Ascend (id ∷ [])
unfolding IsStrictlySortedBy
one_ascends id = (tt, tt)

-- tests that agree on some resources leave the same of them
pub filter_same : (p q : Content → Bool) (cs : List Content) → All (λ c. p c ≡ q c) cs → filter p cs ≡ filter q cs
filter_same p q [] all = refl
filter_same p q (c ∷ cs) all =
    let here : p c ≡ q c = All-head (λ d. p d ≡ q d) c cs all in
    let rest : filter p cs ≡ filter q cs = filter_same p q cs (All-tail (λ d. p d ≡ q d) c cs all) in
    by_bool (q c) (λ t. rw (here ∙ t, t) (ap (λ (xs : List Content). c ∷ xs) rest)) (λ f. rw (here ∙ f, f) rest)

-- two tests may be made in either order
pub filter_swap : {X : Type 0} (p q : X → Bool) (xs : List X) → filter q (filter p xs) ≡ filter p (filter q xs)
filter_swap p q [] = refl
filter_swap p q (x ∷ xs) = grind (arith, filter_swap p q xs)

ids_lower : (x y : List ℕ) (ids : List (List ℕ)) → slice_cmp nat_cmp x y ≡ Less → IdsAbove y ids → IdsAbove x ids
ids_lower x y [] h up = tt
ids_lower x y (id ∷ ids) h up = (nat_list_cmp_total.trans x y id h up.0, ids_lower x y ids h up.1)

not_listed : (id : List ℕ) (ids : List (List ℕ)) → IdsAbove id ids → is_listed id ids ≡ false
not_listed id [] up = refl
not_listed id (other ∷ ids) up = rw up.0 (not_listed id ids up.1)

none_listed : (cs : List Content) → [] ≡ listed [] cs
none_listed [] = refl
none_listed (c ∷ cs) = none_listed cs

none_picked : (ids : List (List ℕ)) → picked [] ids ≡ []
none_picked [] = refl
none_picked (id ∷ ids) = none_picked ids

-- a resource whose id is below these isn't picked by them
picked_above : (c : Content) (cs : List Content) (ids : List (List ℕ)) → IdsAbove c.id ids → picked (c ∷ cs) ids ≡ picked cs ids
picked_above c cs [] up = refl
picked_above c cs (id ∷ ids) up = rw (reversed c.id id Less up.0) (ap (before (find (has_id id) cs)) (picked_above c cs ids up.1))

-- an id that is below those of resources lists none of them
listed_later : (id : List ℕ) (ids : List (List ℕ)) (cs : List Content) → AreAbove id cs → listed ids cs ≡ listed (id ∷ ids) cs
listed_later id ids cs up =
    filter_same (λ c. is_listed c.id ids) (λ c. is_listed c.id (id ∷ ids)) cs
    (All-weaker (λ (d : Content). slice_cmp nat_cmp id d.id ≡ Less) (λ d. is_listed d.id ids ≡ is_listed d.id (id ∷ ids)) (λ d less. rw (reversed id d.id Less less) refl) cs
    (All-from_recursion (λ d. slice_cmp nat_cmp id d.id ≡ Less) cs up))

-- one more resource, where the later ones are picked as they should be
picked_more : (c : Content) (cs : List Content) → AreAbove c.id cs
    → ((ids : List (List ℕ)) → Ascend ids → picked cs ids ≡ listed ids cs)
    → (ids : List (List ℕ)) → Ascend ids → picked (c ∷ cs) ids ≡ listed ids (c ∷ cs)
picked_more c cs up later [] ascend = none_listed cs
picked_more c cs up later (id ∷ ids) ascend = by_order (slice_cmp nat_cmp id c.id) (less (picked_more c cs up later ids rest)) equal greater
  where
    rest : Ascend ids
    rest = sorted_tail (slice_cmp nat_cmp) id ids ascend

    less : picked (c ∷ cs) ids ≡ listed ids (c ∷ cs) → slice_cmp nat_cmp id c.id ≡ Less → picked (c ∷ cs) (id ∷ ids) ≡ listed (id ∷ ids) (c ∷ cs)
    less others h =
        let beyond : AreAbove id (c ∷ cs) = (h, above_lower id c.id cs h up) in
        ap (λ (o : Option Content). before o (picked (c ∷ cs) ids)) (none_above id (c ∷ cs) beyond) ∙ others ∙ listed_later id ids (c ∷ cs) beyond

    equal : slice_cmp nat_cmp id c.id ≡ Equal → picked (c ∷ cs) (id ∷ ids) ≡ listed (id ∷ ids) (c ∷ cs)
    equal h =
        let same : id ≡ c.id = exact_bytes id c.id h in
        let found : find (has_id id) (c ∷ cs) ≡ Some c = rw h refl in
        let beyond : IdsAbove c.id ids = subst (λ (x : List ℕ). IdsAbove x ids) same (sorted_head (slice_cmp nat_cmp) id ids ascend) in
        let behind : AreAbove id cs = subst (λ (x : List ℕ). AreAbove x cs) (sym same) up in
        let others : picked (c ∷ cs) ids ≡ listed (id ∷ ids) cs = picked_above c cs ids beyond ∙ later ids rest ∙ listed_later id ids cs behind in
        let here : slice_cmp nat_cmp c.id id ≡ Equal = reversed id c.id Equal h in
        (λ i. before (found i) (others i)) ∙ rw here refl

    greater : slice_cmp nat_cmp id c.id ≡ Greater → picked (c ∷ cs) (id ∷ ids) ≡ listed (id ∷ ids) (c ∷ cs)
    greater h =
        let under : slice_cmp nat_cmp c.id id ≡ Less = reversed id c.id Greater h in
        let beyond : IdsAbove c.id (id ∷ ids) = (under, ids_lower c.id id ids under (sorted_head (slice_cmp nat_cmp) id ids ascend)) in
        let absent : is_listed c.id (id ∷ ids) ≡ false = not_listed c.id (id ∷ ids) beyond in
        picked_above c cs (id ∷ ids) beyond ∙ later (id ∷ ids) ascend ∙ rw absent refl

-- ids that ascend pick the resources whose ids are among them, in their order
pub picked_all : (cs : List Content) → AreKeyed cs → (ids : List (List ℕ)) → Ascend ids → picked cs ids ≡ listed ids cs
picked_all [] keyed ids ascend = none_picked ids
picked_all (c ∷ cs) keyed ids ascend = picked_more c cs (keyed_above c cs keyed) (picked_all cs (keyed_tail c cs keyed)) ids ascend

-- each resource is the one that is found by its id
pub found_own : (cs : List Content) → AreKeyed cs → All (λ c. find (has_id c.id) cs ≡ Some c) cs
found_own [] keyed = All-nil _
found_own (c ∷ cs) keyed =
    All-cons (λ d. find (has_id d.id) (c ∷ cs) ≡ Some d) c cs (rw (id_itself c.id) refl)
    (All-both (λ (d : Content). slice_cmp nat_cmp c.id d.id ≡ Less) (λ d. find (has_id d.id) cs ≡ Some d) (λ d. find (has_id d.id) (c ∷ cs) ≡ Some d)
    (λ d less found. rw (reversed c.id d.id Less less) found) cs
    (All-from_recursion (λ d. slice_cmp nat_cmp c.id d.id ≡ Less) cs (keyed_above c cs keyed)) (found_own cs (keyed_tail c cs keyed)))

-- where just the ids of the resources that pass a test pass another, the resources of the kind whose ids pass it are those
pub noted_resources : (kind : Kind) (passes : Content → Bool) (test : List ℕ → Bool) (cs : List Content) → AreKeyed cs
    → ((id : List ℕ) (c : Content) → find (has_id id) cs ≡ Some c → test id ≡ passes c)
    → of_kind kind (filter (λ c. test c.id) cs) ≡ filter passes (of_kind kind cs)
noted_resources kind passes test cs keyed noted =
    ap (of_kind kind)
    (filter_same (λ c. test c.id) passes cs
    (All-weaker (λ (c : Content). find (has_id c.id) cs ≡ Some c) (λ c. test c.id ≡ passes c) (λ c found. noted c.id c found) cs (found_own cs keyed)))
    ∙ filter_swap passes (is_of kind) cs

module _ (q : UniqueName) (kind : Kind) (cs : List Content) (collection : Collection) (is : IsCollection cs collection) where
  -- an id is noted where it is among those that were found
  noted : (holders : Option Holders) → holders_at collection.texts q ≡ holders → (id : List ℕ) (c : Content) → find (has_id id) cs ≡ Some c → has_in id holders ≡ is_under q c
  noted holders found id c own = ap (has_in id) (sym found) ∙ is.noted q id ∙ ap (is_under_in q) own

  -- the resources of the kind that are indexed under a text, where one id is noted under it, several are, or none is
  pub indexed_one : (id : List ℕ) → holders_at collection.texts q ≡ Some (One id) → of_kind kind (before (find (has_id id) cs) []) ≡ filter (is_under q) (of_kind kind cs)
  indexed_one id found =
      ap (of_kind kind) (picked_all cs is.keyed_apart (id ∷ []) (one_ascends id))
      ∙ noted_resources kind (is_under q) (λ i. is_listed i (id ∷ [])) cs is.keyed_apart (λ i c own. or_false (is_same i id) ∙ same_flips i id ∙ noted (Some (One id)) found i c own)

  pub indexed_several : (ids : BTreeSet (List ℕ)) → holders_at collection.texts q ≡ Some (Several ids)
      → of_kind kind (filter (λ c. contains (slice_cmp nat_cmp) ids c.id) cs) ≡ filter (is_under q) (of_kind kind cs)
  indexed_several ids found = noted_resources kind (is_under q) (contains (slice_cmp nat_cmp) ids) cs is.keyed_apart (noted (Some (Several ids)) found)

  pub indexed_none : holders_at collection.texts q ≡ None → [] ≡ filter (is_under q) (of_kind kind cs)
  indexed_none found =
      ap (of_kind kind) (none_listed cs) ∙ noted_resources kind (is_under q) (λ i. false) cs is.keyed_apart (noted None found)

-- one more id picks the resource with it, if there is one
pub picked_push : (cs : List Content) (ids : List (List ℕ)) (id : List ℕ) → picked cs (ids ++ id ∷ []) ≡ picked cs ids ++ before (find (has_id id) cs) []
picked_push cs [] id = refl
picked_push cs (other ∷ ids) id = go (find (has_id other) cs) (picked_push cs ids id)
  where
    go : (o : Option Content) → picked cs (ids ++ id ∷ []) ≡ picked cs ids ++ before (find (has_id id) cs) []
        → before o (picked cs (ids ++ id ∷ [])) ≡ before o (picked cs ids) ++ before (find (has_id id) cs) []
    go None rest = rest
    go (Some c) rest = ap (λ (xs : List Content). c ∷ xs) rest

-- what has taken some and then others has taken all
pub folds_both : {V : Type 0} (Takes : V → Content → V → Type 0) (first middle last : V) (cs ds : List Content)
    → FoldsTo Takes first cs middle → FoldsTo Takes middle ds last → FoldsTo Takes first (cs ++ ds) last
folds_both Takes first middle last [] ds before after = subst (λ v. FoldsTo Takes v ds last) (sym before) after
folds_both Takes first middle last (c ∷ cs) ds before after = (before.0, before.1, folds_both Takes before.0 middle last cs ds before.2 after)

-- what has taken the resources with some ids has taken those with one more
pub folds_picked : {V : Type 0} (Takes : V → Content → V → Type 0) (kind : Kind) (first last next : V) (cs : List Content) (ids : List (Bor (List ℕ))) (id : Bor (List ℕ))
    → FoldsTo Takes first (of_kind kind (picked cs (map (λ i. i.now) ids))) last → FoldsTo Takes last (of_kind kind (before (find (has_id id.now) cs) [])) next
    → FoldsTo Takes first (of_kind kind (picked cs (map (λ i. i.now) (ids ++ id ∷ [])))) next
folds_picked Takes kind first last next cs ids id taken more =
    let some = map (λ (i : Bor (List ℕ)). i.now) ids in
    let one = before (find (has_id id.now) cs) [] in
    let all : of_kind kind (picked cs (map (λ (i : Bor (List ℕ)). i.now) (ids ++ id ∷ []))) ≡ of_kind kind (picked cs some) ++ of_kind kind one =
    ap (λ (xs : List (List ℕ)). of_kind kind (picked cs xs)) (map_push (λ (i : Bor (List ℕ)). i.now) ids id)
    ∙ ap (of_kind kind) (picked_push cs some id.now)
    ∙ filter-append (is_of kind) (picked cs some) one in
    subst (λ (ds : List Content). FoldsTo Takes first ds next) (sym all)
    (folds_both Takes first last next (of_kind kind (picked cs some)) (of_kind kind one) taken more)
