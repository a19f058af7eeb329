-- The ids of the resources of a kind, as resources come and go.
use Rattle.std.proofs.Common.{◌≡◌, refl, sym, ◌∙◌, ap, subst, ℕ, Bool, true, false, not, cond, List, [], ◌∷◌, map, take, drop}
use Rattle.std.specs.Prelude.{All, Some, find}
use Rattle.std.specs.Bool.{OnFalse}
use Rattle.std.specs.List.{list_any}
use Rattle.std.specs.Ordering.{nat_cmp}
use Rattle.std.specs.declared.cmp.Ordering.TheVariants.{Less, Equal, Greater}
use Rattle.std.specs.Cmp.Lexicographic.{slice_cmp}
use Rattle.std.specs.BTreeMap.{is_at}
use Rattle.std.specs.BTreeSet.{insert_key}
use Rattle.std.specs.Set.{remove_key}
use Rattle.std.proofs.lemmas.List.{take-map, drop-map}
use Rattle.std.proofs.lemmas.List.Elements.{All-drop, All-filter, All-head, All-tail, All-take, filter_passes}
use Rattle.std.proofs.lemmas.Map.Lookups.{exact_bytes}
use denote.Enum.Bare.{sameb, same_true}
use Rattle.scim_schema.specs.declared.Kind.{Kind}
use Rattle.scim_schema.specs.declared.Kind.TheVariants.{User, Group}
use Rattle.scim_schema.specs.contracts.Kind.{the_type as the_kind}
use Rattle.scim_cell.specs.Content.{Content}
use Rattle.scim_cell.specs.Kinds.{is_of, of_kind}
use Rattle.scim_cell.specs.Order.{id_cmp}
use Rattle.scim_shelf.specs.declared.kind_ids.KindIds.{KindIds}
use Rattle.scim_shelf.specs.KindIds.{ids, has_id as has_kept, HasSameIds, IsInserted, IsRemovedIf}
use Rattle.scim_shelf.specs.Stores.{AreKeyed, AreOf, keep, without, window}
use Rattle.scim_shelf.specs.Indexed.{has_id, picked}
use Rattle.scim_shelf.proofs.PlaceLemmas.{AreAbove, by_order, above_lower, keep_less, keep_equal, keep_greater, without_less, without_equal, without_greater}
use Rattle.scim_shelf.proofs.StoreLemmas.{keyed_above, keyed_tail}
use Rattle.scim_shelf.proofs.NameLemmas.{by_bool}
use Rattle.scim_shelf.proofs.NotedLemmas.{id_itself}
use Rattle.scim_shelf.proofs.PickLemmas.{found_own}

-- the ids of the resources of a kind
abbrev pub ids_of : Kind → List Content → List (List ℕ)
ids_of kind cs = map (λ c. c.id) (of_kind kind cs)

-- what holds of both kinds
pub each_kind : (P : Kind → Type 0) → P User → P Group → (k : Kind) → P k
each_kind P user group User = user
each_kind P user group Group = group

insert_above : (kind : Kind) (id : List ℕ) (cs : List Content) → AreAbove id cs → insert_key (slice_cmp nat_cmp) (ids_of kind cs) id ≡ id ∷ ids_of kind cs
insert_above kind id [] up = refl
insert_above kind id (d ∷ ds) up = by_bool (is_of kind d)
    (λ t. rw (t, up.0) refl)
    (λ f. rw f (insert_above kind id ds up.1))

remove_above : (kind : Kind) (id : List ℕ) (cs : List Content) → AreAbove id cs → remove_key (is_at (slice_cmp nat_cmp id)) (ids_of kind cs) ≡ ids_of kind cs
remove_above kind id [] up = refl
remove_above kind id (d ∷ ds) up = by_bool (is_of kind d)
    (λ t. rw (t, up.0) (ap (λ (xs : List (List ℕ)). d.id ∷ xs) (remove_above kind id ds up.1)))
    (λ f. rw f (remove_above kind id ds up.1))

-- the ids of a kind as a resource is kept
pub ids_keep : (kind : Kind) (c : Content) (cs : List Content) → AreKeyed cs → AreOf c.kind c.id cs
    → ids_of kind (keep c cs) ≡ cond (is_of kind c) (insert_key (slice_cmp nat_cmp) (ids_of kind cs) c.id) (ids_of kind cs)
ids_keep kind c [] keyed own = by_bool (is_of kind c) (λ t. rw t refl) (λ f. rw f refl)
ids_keep kind c (d ∷ ds) keyed own = go (ids_keep kind c ds (keyed_tail d ds keyed) (All-tail (λ (e : Content). e.id ≡ c.id → e.kind ≡ c.kind) d ds own))
  where
    up : AreAbove d.id ds
    up = keyed_above d ds keyed

    Wanted : Type 0
    Wanted = ids_of kind (keep c (d ∷ ds)) ≡ cond (is_of kind c) (insert_key (slice_cmp nat_cmp) (ids_of kind (d ∷ ds)) c.id) (ids_of kind (d ∷ ds))

    less : id_cmp c d ≡ Less → Wanted
    less h =
        let first = insert_above kind c.id (d ∷ ds) (h, above_lower c.id d.id ds h up) in
        ap (ids_of kind) (keep_less c d ds h up) ∙ by_bool (is_of kind c) (λ t. rw t (sym first)) (λ f. rw f refl)

    equal : id_cmp c d ≡ Equal → Wanted
    equal h =
        let same : d.id ≡ c.id = sym (exact_bytes c.id d.id h) in
        let kinds : is_of kind d ≡ is_of kind c = ap (λ (k : Kind). sameb the_kind k kind) (All-head (λ (e : Content). e.id ≡ c.id → e.kind ≡ c.kind) d ds own same) in
        ap (ids_of kind) (keep_equal c d ds h up)
        ∙ by_bool (is_of kind c)
        (λ t. rw (kinds ∙ t, t, h) (ap (λ (id : List ℕ). id ∷ ids_of kind ds) (sym same)))
        (λ f. rw (kinds ∙ f, f) refl)

    greater : ids_of kind (keep c ds) ≡ cond (is_of kind c) (insert_key (slice_cmp nat_cmp) (ids_of kind ds) c.id) (ids_of kind ds) → id_cmp c d ≡ Greater → Wanted
    greater rest h =
        ap (ids_of kind) (keep_greater c d ds h)
        ∙ by_bool (is_of kind d)
        (λ t. rw t (ap (λ (xs : List (List ℕ)). d.id ∷ xs) rest ∙ by_bool (is_of kind c) (λ u. rw (u, h) refl) (λ f. rw f refl)))
        (λ f. rw f rest)

    go : ids_of kind (keep c ds) ≡ cond (is_of kind c) (insert_key (slice_cmp nat_cmp) (ids_of kind ds) c.id) (ids_of kind ds) → Wanted
    go rest = by_order (id_cmp c d) less equal (greater rest)

-- the ids of a kind as the resource of an id goes
pub ids_without : (kind : Kind) (id : List ℕ) (cs : List Content) → AreKeyed cs
    → ids_of kind (without id cs) ≡ remove_key (is_at (slice_cmp nat_cmp id)) (ids_of kind cs)
ids_without kind id [] keyed = refl
ids_without kind id (d ∷ ds) keyed = go (ids_without kind id ds (keyed_tail d ds keyed))
  where
    up : AreAbove d.id ds
    up = keyed_above d ds keyed

    Wanted : Type 0
    Wanted = ids_of kind (without id (d ∷ ds)) ≡ remove_key (is_at (slice_cmp nat_cmp id)) (ids_of kind (d ∷ ds))

    less : slice_cmp nat_cmp id d.id ≡ Less → Wanted
    less h = ap (ids_of kind) (without_less id d ds h up) ∙ sym (remove_above kind id (d ∷ ds) (h, above_lower id d.id ds h up))

    equal : slice_cmp nat_cmp id d.id ≡ Equal → Wanted
    equal h =
        let behind : AreAbove id ds = subst (λ (x : List ℕ). AreAbove x ds) (sym (exact_bytes id d.id h)) up in
        ap (ids_of kind) (without_equal id d ds h up) ∙ by_bool (is_of kind d) (λ t. rw (t, h) refl) (λ f. rw f (sym (remove_above kind id ds behind)))

    greater : ids_of kind (without id ds) ≡ remove_key (is_at (slice_cmp nat_cmp id)) (ids_of kind ds) → slice_cmp nat_cmp id d.id ≡ Greater → Wanted
    greater rest h =
        ap (ids_of kind) (without_greater id d ds h)
        ∙ by_bool (is_of kind d) (λ t. rw (t, h) (ap (λ (xs : List (List ℕ)). d.id ∷ xs) rest)) (λ f. rw f rest)

    go : ids_of kind (without id ds) ≡ remove_key (is_at (slice_cmp nat_cmp id)) (ids_of kind ds) → Wanted
    go rest = by_order (slice_cmp nat_cmp id d.id) less equal (greater rest)

-- an id that came and went leaves the others
came_and_went : (id : List ℕ) (ks : List (List ℕ)) → list_any (is_at (slice_cmp nat_cmp id)) ks ≡ false
    → remove_key (is_at (slice_cmp nat_cmp id)) (insert_key (slice_cmp nat_cmp) ks id) ≡ ks
came_and_went id [] absent = rw (id_itself id) refl
came_and_went id (k ∷ ks) absent = by_order (slice_cmp nat_cmp id k)
    (λ h. rw h (rw (id_itself id) refl))
    (λ h. let no : true ≡ false = rw h at absent in cc)
    (λ h. rw h (rw h (ap (λ (xs : List (List ℕ)). k ∷ xs) (came_and_went id ks (rw h at absent)))))

-- what an insertion that is taken back leaves
pub ids_back : (kind : Kind) (id : List ℕ) (added : Bool) (old mid new : KindIds) → added ≡ not (has_kept old kind id)
    → IsInserted kind id old mid → OnFalse added (HasSameIds old mid) → IsRemovedIf added kind id mid new → HasSameIds old new
ids_back kind id false old mid new is inserted unchanged removed k = removed k ∙ unchanged k
ids_back kind id true old mid new is inserted unchanged removed k = by_bool (sameb the_kind kind k)
    (λ t.
    let own : kind ≡ k = same_true the_kind tt kind k t in
    let absent : list_any (is_at (slice_cmp nat_cmp id)) (ids old k) ≡ false = not_true (has_kept old k id) (is ∙ ap (λ (j : Kind). not (has_kept old j id)) own) in
    rw t at (removed k) ∙ ap (remove_key (is_at (slice_cmp nat_cmp id))) (rw t at (inserted k)) ∙ came_and_went id (ids old k) absent)
    (λ f. rw f at (removed k) ∙ rw f at (inserted k))
  where
    not_true : (b : Bool) → true ≡ not b → b ≡ false
    not_true true h = h
    not_true false h = refl

-- the resources of a kind with the ids of some resources of the kind are these
picked_own : (kind : Kind) (cs ds : List Content) → All (λ c. find (has_id c.id) cs ≡ Some c) ds → All (λ c. is_of kind c ≡ true) ds
    → of_kind kind (picked cs (map (λ c. c.id) ds)) ≡ ds
picked_own kind cs [] found own = refl
picked_own kind cs (d ∷ ds) found own =
    let here : find (has_id d.id) cs ≡ Some d = All-head (λ (c : Content). find (has_id c.id) cs ≡ Some c) d ds found in
    let kinds : is_of kind d ≡ true = All-head (λ (c : Content). is_of kind c ≡ true) d ds own in
    let rest = picked_own kind cs ds (All-tail (λ (c : Content). find (has_id c.id) cs ≡ Some c) d ds found) (All-tail (λ (c : Content). is_of kind c ≡ true) d ds own) in
    rw here (rw kinds (ap (λ (xs : List Content). d ∷ xs) rest))

-- the resources with the ids of a window are those of the window
pub picked_window : (kind : Kind) (skipped count : ℕ) (cs : List Content) → AreKeyed cs
    → of_kind kind (picked cs (take count (drop skipped (ids_of kind cs)))) ≡ window skipped count (of_kind kind cs)
picked_window kind skipped count cs keyed =
    let those = of_kind kind cs in
    let found = All-filter (is_of kind) (λ (c : Content). find (has_id c.id) cs ≡ Some c) cs (found_own cs keyed) in
    let own = filter_passes (is_of kind) cs in
    let there = All-take (λ (c : Content). find (has_id c.id) cs ≡ Some c) count (drop skipped those) (All-drop (λ (c : Content). find (has_id c.id) cs ≡ Some c) skipped those found) in
    let kinds = All-take (λ (c : Content). is_of kind c ≡ true) count (drop skipped those) (All-drop (λ (c : Content). is_of kind c ≡ true) skipped those own) in
    ap (λ (is : List (List ℕ)). of_kind kind (picked cs is))
    (ap (take count) (drop-map (λ (c : Content). c.id) skipped those) ∙ take-map (λ (c : Content). c.id) count (drop skipped those))
    ∙ picked_own kind cs (window skipped count those) there kinds
