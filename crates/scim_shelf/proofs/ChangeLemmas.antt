-- A resource that is changed, among those that are kept.
use Rattle.std.proofs.Common.{◌≡◌, ◌≢◌, refl, sym, ◌∙◌, ap, subst, subst₂, ℕ, Bool, true, false, List, [], ◌∷◌, ◌++◌, is_some, cond, get_or}
use Rattle.std.specs.Prelude.{All, find, not, Option, None, Some}
use Rattle.std.specs.Option.{option_map}
use Rattle.std.specs.List.{list_any}
use Rattle.std.specs.Ordering.{nat_cmp}
use Rattle.std.specs.declared.cmp.Ordering.TheVariants.{Less, Equal}
use Rattle.std.specs.Cmp.Lexicographic.{slice_cmp}
use Rattle.std.proofs.lemmas.Cmp.{tied_itself, nat_list_cmp_total}
use Rattle.std.proofs.lemmas.List.Elements.{All-nil, All-cons, All-head, All-tail, All-contains}
use Rattle.std.proofs.lemmas.Slice.Eq.{bytes_eq-Decides}
use Rattle.std.proofs.lemmas.Map.Made.{is_member-Decides}
use Rattle.std.proofs.lemmas.Map.Lookups.{exact_bytes}
use denote.Enum.Bare.{sameb, same_true}
use Rattle.scim_schema.specs.declared.Kind.{Kind}
use Rattle.scim_schema.specs.declared.Kind.TheVariants.{User, Group}
use Rattle.scim_schema.specs.contracts.Kind.{the_type as the_kind}
use Rattle.scim_schema.proofs.Facts.{and_first, and_second}
use Rattle.scim_cell.specs.Content.{Content}
use Rattle.scim_cell.specs.Equality.{is_same_id}
use Rattle.scim_cell.specs.Kinds.{is_of, of_kind}
use Rattle.scim_value.specs.Uniqueness.{Name, unique_names}
use Rattle.scim_shelf.specs.Stores.{AreKeyed, AreOf, HasPlace, is_at, has_name, is_taken, below, above, without}
use Rattle.scim_shelf.specs.Indexed.{has_id, has_in}
use Rattle.scim_shelf.proofs.PlaceLemmas.{AreAbove, by_order, above_lower, without_less, without_equal, without_greater}
use Rattle.scim_shelf.proofs.StoreLemmas.{keyed_above, keyed_apart, keyed_tail, ids_differ}
use Rattle.scim_shelf.proofs.NameLemmas.{by_bool, is_same_name-Decides, found_by_id, found_unnamed, is_eq-Equal, named_without, none_at, not_at}
use Rattle.scim_shelf.proofs.FreshLemmas.{found_any, none_passes}

-- those above an id aren't of it
above_of : (kind : Kind) (id : List ℕ) (cs : List Content) → AreAbove id cs → AreOf kind id cs
above_of kind id [] up = All-nil (λ d. d.id ≡ id → d.kind ≡ kind)
above_of kind id (d ∷ ds) up =
    All-cons (λ e. e.id ≡ id → e.kind ≡ kind) d ds (λ same. absurd (ids_differ id d.id up.0 (sym same))) (above_of kind id ds up.1)

-- where one is found at a kind and an id, those of the id are of the kind
found_of : (kind : Kind) (id : List ℕ) (cs : List Content) (c : Content) → AreKeyed cs → Some c ≡ find (is_at kind id) cs → AreOf kind id cs
found_of kind id [] c keyed found = cc
found_of kind id (d ∷ ds) c keyed found = go (found_of kind id ds c (keyed_tail d ds keyed))
  where
    P : Content → Type 0
    P e = e.id ≡ id → e.kind ≡ kind

    none_then : (option : Option Content) → Some c ≡ option → option ≡ None → ⊥
    none_then option some none = let s : Some c ≡ None = some ∙ none in cc

    less : slice_cmp nat_cmp id d.id ≡ Less → AreOf kind id (d ∷ ds)
    less h = absurd (none_then (find (is_at kind id) (d ∷ ds)) found (none_at kind id (d ∷ ds) (h, above_lower id d.id ds h (keyed_above d ds keyed))))

    equal : slice_cmp nat_cmp id d.id ≡ Equal → AreOf kind id (d ∷ ds)
    equal h =
        let same : id ≡ d.id = exact_bytes id d.id h in
        let up : AreAbove id ds = subst (λ (x : List ℕ). AreAbove x ds) (sym same) (keyed_above d ds keyed) in
        by_bool (is_at kind id d)
        (λ t. All-cons P d ds (λ e. same_true the_kind tt d.kind kind (and_first (is_of kind d) (is_same_id id d.id) t)) (above_of kind id ds up))
        (λ f. absurd (none_then (find (is_at kind id) ds) (found ∙ skipped f) (none_at kind id ds up)))
      where
        skipped : is_at kind id d ≡ false → find (is_at kind id) (d ∷ ds) ≡ find (is_at kind id) ds
        skipped f = rw f refl

    go : (Some c ≡ find (is_at kind id) ds → AreOf kind id ds) → AreOf kind id (d ∷ ds)
    go later = by_order (slice_cmp nat_cmp id d.id) less equal (λ h.
        (let f : is_at kind id d ≡ false = not_at kind id d (rw h refl) in
        let rest : Some c ≡ find (is_at kind id) ds = rw f at found in
        All-cons P d ds (λ e. absurd (let tied : slice_cmp nat_cmp id d.id ≡ Equal = subst (λ (z : List ℕ). slice_cmp nat_cmp id z ≡ Equal) (sym e) (tied_itself nat_list_cmp_total id) in cc)) (later rest)))

-- what a test finds passes it
found_passes : (test : Content → Bool) (cs : List Content) (c : Content) → find test cs ≡ Some c → test c ≡ true
found_passes test [] c h = cc
found_passes test (d ∷ ds) c h =
    by_bool (test d)
    (λ t. (let same : Some d ≡ Some c = rw t at h in subst (λ (e : Content). test e ≡ true) (some_one same) t))
    (λ f. found_passes test ds c (rw f at h))
  where
    some_one : Some d ≡ Some c → d ≡ c
    some_one e = cc

-- so those of the id of one that is found are of its kind
pub found_own : (kind : Kind) (id : List ℕ) (cs : List Content) (c : Content) → AreKeyed cs → Some c ≡ find (is_at kind id) cs → AreOf c.kind c.id cs
found_own kind id cs c keyed found =
    let at : is_at kind id c ≡ true = found_passes (is_at kind id) cs c (sym found) in
    let k : c.kind ≡ kind = same_true the_kind tt c.kind kind (and_first (is_of kind c) (is_same_id id c.id) at) in
    let i : id ≡ c.id = (bytes_eq-Decides id c.id).0 (and_second (is_of kind c) (is_same_id id c.id) at) in
    subst₂ (λ (x : Kind) (y : List ℕ). AreOf x y cs) (sym k) i (found_of kind id cs c keyed found)

-- where the one of an id has a name, it is the one that is found by the name
named_found : (n : Name) (id : List ℕ) (cs : List Content) → AreKeyed cs → has_in n (find (has_id id) cs) ≡ true → find (has_name n) cs ≡ find (has_id id) cs
named_found n id [] keyed h = refl
named_found n id (d ∷ ds) keyed h =
    by_bool (has_id id d)
    (λ t. (let named : has_name n d ≡ true = rw t at h in rw (t, named) refl))
    (λ f. (let later : has_in n (find (has_id id) ds) ≡ true = rw f at h in
    by_bool (has_name n d)
    (λ named. absurd (let not : has_in n (find (has_id id) ds) ≡ false = found_unnamed n d (has_id id) ds named (keyed_apart d ds keyed) in cc))
    (λ unnamed. rw (f, unnamed) (named_found n id ds (keyed_tail d ds keyed) later))))

-- whether it is the resource of another id than this one
abbrev pub is_other : List ℕ → Option Content → Bool
is_other id None = false
is_other id (Some c) = not (is_same_id id c.id)

is_id : (id : List ℕ) (c : Content) → has_id id c ≡ true → is_same_id id c.id ≡ true
is_id id c h = (bytes_eq-Decides id c.id).1 (exact_bytes id c.id (is_eq-Equal (slice_cmp nat_cmp id c.id) h))

-- whether another than the one of an id has a name: the one that is found by the name has another id
pub named_beside : (n : Name) (id : List ℕ) (cs : List Content) (owner : Option Content) → AreKeyed cs → owner ≡ find (has_name n) cs → is_other id owner ≡ list_any (has_name n) (without id cs)
named_beside n id cs owner keyed is =
    ap (is_other id) is ∙ go (find (has_name n) cs) refl ∙ ap is_some (sym (named_without n id cs keyed)) ∙ found_any (has_name n) (without id cs)
  where
    there : (c : Content) → find (has_name n) cs ≡ Some c → is_other id (Some c) ≡ is_some (cond (has_in n (find (has_id id) cs)) None (Some c))
    there c found =
        by_bool (has_in n (find (has_id id) cs))
        (λ t. (let own : has_id id c ≡ true = found_passes (has_id id) cs c (sym (named_found n id cs keyed t) ∙ found) in
        rw (t, is_id id c own) refl))
        (λ f. rw f (by_bool (is_same_id id c.id)
        (λ same. absurd (let mine : find (has_id id) cs ≡ Some c = found_by_id (has_name n) id cs keyed (ap (option_map (λ (d : Content). d.id)) found ∙ ap (λ (x : List ℕ). Some x) (sym ((bytes_eq-Decides id c.id).0 same))) ∙ found in
        let has : has_in n (find (has_id id) cs) ≡ true = ap (has_in n) mine ∙ found_passes (has_name n) cs c found in cc))
        (λ other. rw other refl)))

    go : (o : Option Content) → find (has_name n) cs ≡ o → is_other id o ≡ is_some (cond (has_in n (find (has_id id) cs)) None o)
    go None none = by_bool (has_in n (find (has_id id) cs)) (λ t. rw t refl) (λ f. rw f refl)
    go (Some c) found = there c found

-- what holds of all of two lists holds of all of each
All-front : (P : Content → Type 0) (xs ys : List Content) → All P (xs ++ ys) → All P xs
All-front P [] ys h = All-nil P
All-front P (x ∷ xs) ys h = All-cons P x xs (All-head P x (xs ++ ys) h) (All-front P xs ys (All-tail P x (xs ++ ys) h))

All-back : (P : Content → Type 0) (xs ys : List Content) → All P (xs ++ ys) → All P ys
All-back P [] ys h = h
All-back P (x ∷ xs) ys h = All-back P xs ys (All-tail P x (xs ++ ys) h)

-- what holds of all that are left when the one of an id goes holds of all of other ids
spread : (P : Content → Type 0) (id : List ℕ) (cs : List Content) → All P (below id cs) → All P (above id cs) → All (λ d. d.id ≢ id → P d) cs
spread P id [] lows highs = All-nil (λ d. d.id ≢ id → P d)
spread P id (d ∷ ds) lows highs = by_order (slice_cmp nat_cmp d.id id)
    (λ h. (let lows' : All P (d ∷ below id ds) = rw h at lows in
    let highs' : All P (above id ds) = rw h at highs in
    All-cons Q d ds (λ n. All-head P d (below id ds) lows') (spread P id ds (All-tail P d (below id ds) lows') highs')))
    (λ h. (let lows' : All P (below id ds) = rw h at lows in
    let highs' : All P (above id ds) = rw h at highs in
    All-cons Q d ds (λ n. absurd (n (exact_bytes d.id id h))) (spread P id ds lows' highs')))
    (λ h. (let lows' : All P (below id ds) = rw h at lows in
    let highs' : All P (d ∷ above id ds) = rw h at highs in
    All-cons Q d ds (λ n. All-head P d (above id ds) highs') (spread P id ds lows' (All-tail P d (above id ds) highs'))))
  where
    Q : Content → Type 0
    Q e = e.id ≢ id → P e

-- a resource has the place of the one of its id and kind, where no other has a name of it
pub changed_place : (cs : List Content) (c : Content) → AreOf c.kind c.id cs → is_taken (without c.id cs) c ≡ false → HasPlace cs c
changed_place cs c kinds free = record {
  kinds = kinds;
  names = λ k e l other. record {
    ids = λ same. other (sym same);
    names = λ n own theirs.
        (let none : list_any (has_name n) (without c.id cs) ≡ false = All-contains (λ m. list_any (has_name m) (without c.id cs) ≡ false) (unique_names c) n (none_passes (λ m. list_any (has_name m) (without c.id cs)) (unique_names c) free) own in
        let all : All (λ d. has_name n d ≡ false) (without c.id cs) = none_passes (has_name n) (without c.id cs) none in
        let unnamed : has_name n (get_or cs k e) ≡ false = spread (λ d. has_name n d ≡ false) c.id cs (All-front (λ d. has_name n d ≡ false) (below c.id cs) (above c.id cs) all) (All-back (λ d. has_name n d ≡ false) (below c.id cs) (above c.id cs) all) k e l other in
        let named = (is_member-Decides is_same_name-Decides _ n).1 theirs in cc);
  };
}

-- a user that goes leaves the groups
pub groups_without : (id : List ℕ) (cs : List Content) → AreKeyed cs → AreOf User id cs → of_kind Group (without id cs) ≡ of_kind Group cs
groups_without id [] keyed users = refl
groups_without id (d ∷ ds) keyed users =
    by_order (slice_cmp nat_cmp id d.id)
    (λ h. ap (of_kind Group) (without_less id d ds h (keyed_above d ds keyed)))
    (λ h. (let user : is_of Group d ≡ false = ap (λ k. sameb the_kind k Group) (All-head (λ e. e.id ≡ id → e.kind ≡ User) d ds users (sym (exact_bytes id d.id h))) in
    ap (of_kind Group) (without_equal id d ds h (keyed_above d ds keyed)) ∙ sym (skipped user)))
    (λ h. ap (of_kind Group) (without_greater id d ds h) ∙ same (groups_without id ds (keyed_tail d ds keyed) (All-tail (λ e. e.id ≡ id → e.kind ≡ User) d ds users)))
  where
    skipped : is_of Group d ≡ false → of_kind Group (d ∷ ds) ≡ of_kind Group ds
    skipped f = rw f refl

    same : of_kind Group (without id ds) ≡ of_kind Group ds → of_kind Group (d ∷ without id ds) ≡ of_kind Group (d ∷ ds)
    same rest = by_bool (is_of Group d) (λ t. rw t (ap (λ (xs : List Content). d ∷ xs) rest)) (λ f. rw f rest)
