-- Who has a name, as resources come and go.
use Rattle.std.proofs.Common.{◌≡◌, ◌≢◌, refl, sym, ◌∙◌, ap, subst, ℕ, Bool, true, false, ◌&&◌, cond, List, [], ◌∷◌, Decides}
use Rattle.std.specs.Prelude.{All, find, Option, None, Some}
use Rattle.std.specs.Option.{option_map}
use Rattle.std.specs.Ordering.{nat_cmp, is_eq, is_lt}
use Rattle.std.specs.declared.cmp.Ordering.{Ordering}
use Rattle.std.specs.declared.cmp.Ordering.TheVariants.{Less, Equal, Greater}
use Rattle.std.specs.Cmp.{decided, unsigned_Decides}
use Rattle.std.specs.Cmp.Lexicographic.{slice_cmp, pointwise_decides}
use Rattle.std.proofs.lemmas.Cmp.{tied_itself, nat_list_cmp_total}
use Rattle.std.proofs.lemmas.List.Elements.{All-head, All-tail, All-filter, filter_passes}
use Rattle.std.proofs.lemmas.List.Folds.{find-append}
use Rattle.std.proofs.lemmas.Map.Made.{is_member-Decides}
use Rattle.std.proofs.lemmas.Map.Lookups.{exact_bytes}
use Rattle.scim_schema.proofs.Facts.{is_same_leaf-Decides}
use Rattle.scim_cell.specs.Content.{Content}
use Rattle.scim_cell.specs.Equality.{both}
use Rattle.scim_cell.specs.Kinds.{is_of}
use Rattle.scim_schema.specs.declared.Kind.{Kind}
use Rattle.std.proofs.lemmas.Map.Text.{is_eq-slice_cmp}
use Rattle.scim_value.specs.Uniqueness.{Name, unique_names, AreApart}
use Rattle.scim_shelf.specs.Stores.{AreKeyed, is_at, is_same_name, has_name, of_id, below, above, keep, without}
use Rattle.scim_shelf.specs.Indexed.{has_id, has_in, only_of}
use Rattle.scim_shelf.proofs.PlaceLemmas.{AreAbove, by_order, above_lower, without_less, without_equal, without_greater}
use Rattle.scim_shelf.proofs.StoreLemmas.{All-both, ids_differ, keyed_above, keyed_apart, keyed_tail}

pub by_bool : {G : Type 0} (b : Bool) → (b ≡ true → G) → (b ≡ false → G) → G
by_bool true holds fails = holds refl
by_bool false holds fails = fails refl

pub is_same_name-Decides : (n m : Name) → Decides (is_same_name n m) (n ≡ m)
is_same_name-Decides n m =
    both _ _ (is_same_leaf-Decides n.leaf m.leaf) (pointwise_decides unsigned_Decides n.text m.text)
    (λ p q. λ i. record { leaf = p i; text = q i }) (ap (λ (x : Name). x.leaf)) (ap (λ (x : Name). x.text))

pub is_same_name-flips : (n m : Name) → is_same_name n m ≡ is_same_name m n
is_same_name-flips n m = (decided is_same_name is_same_name-Decides).symm n m

-- two resources that are apart don't both have a name
pub apart_names : (n : Name) (c d : Content) → AreApart c d → has_name n c ≡ true → has_name n d ≡ false
apart_names n c d apart h =
    by_bool (has_name n d)
    (λ t. absurd (apart.names n ((is_member-Decides is_same_name-Decides (unique_names c) n).0 h) ((is_member-Decides is_same_name-Decides (unique_names d) n).0 t)))
    (λ f. f)

none_named : (n : Name) (c : Content) (ds : List Content) → has_name n c ≡ true → All (AreApart c) ds → find (has_name n) ds ≡ None
none_named n c [] h apart = refl
none_named n c (d ∷ ds) h apart =
    rw (apart_names n c d (All-head (AreApart c) d ds apart) h) (none_named n c ds h (All-tail (AreApart c) d ds apart))

pub found_unnamed : (n : Name) (c : Content) (test : Content → Bool) (ds : List Content) → has_name n c ≡ true → All (AreApart c) ds → has_in n (find test ds) ≡ false
found_unnamed n c test [] h apart = refl
found_unnamed n c test (d ∷ ds) h apart =
    by_bool (test d)
    (λ t. rw t (apart_names n c d (All-head (AreApart c) d ds apart) h))
    (λ f. rw f (found_unnamed n c test ds h (All-tail (AreApart c) d ds apart)))

-- no resource above an id has it
pub none_above : (id : List ℕ) (cs : List Content) → AreAbove id cs → find (has_id id) cs ≡ None
none_above id [] up = refl
none_above id (c ∷ cs) up = rw up.0 (none_above id cs up.1)

-- who has a name when the resource of an id has gone
pub named_without : (n : Name) (id : List ℕ) (cs : List Content) → AreKeyed cs
    → find (has_name n) (without id cs) ≡ cond (has_in n (find (has_id id) cs)) None (find (has_name n) cs)
named_without n id [] keyed = refl
named_without n id (d ∷ ds) keyed = go (named_without n id ds (keyed_tail d ds keyed))
  where
    up : AreAbove d.id ds
    up = keyed_above d ds keyed

    less : slice_cmp nat_cmp id d.id ≡ Less → find (has_name n) (without id (d ∷ ds)) ≡ cond (has_in n (find (has_id id) (d ∷ ds))) None (find (has_name n) (d ∷ ds))
    less h =
        let none : find (has_id id) (d ∷ ds) ≡ None = none_above id (d ∷ ds) (h, above_lower id d.id ds h up) in
        ap (find (has_name n)) (without_less id d ds h up) ∙ ap (λ (o : Option Content). cond (has_in n o) None (find (has_name n) (d ∷ ds))) (sym none)

    equal : slice_cmp nat_cmp id d.id ≡ Equal → find (has_name n) (without id (d ∷ ds)) ≡ cond (has_in n (find (has_id id) (d ∷ ds))) None (find (has_name n) (d ∷ ds))
    equal h =
        let here : find (has_id id) (d ∷ ds) ≡ Some d = rw h refl in
        let rest : find (has_name n) ds ≡ cond (has_name n d) None (find (has_name n) (d ∷ ds)) =
        by_bool (has_name n d) (λ t. rw t (none_named n d ds t (keyed_apart d ds keyed))) (λ f. rw f refl) in
        ap (find (has_name n)) (without_equal id d ds h up) ∙ rest ∙ ap (λ (o : Option Content). cond (has_in n o) None (find (has_name n) (d ∷ ds))) (sym here)

    greater : find (has_name n) (without id ds) ≡ cond (has_in n (find (has_id id) ds)) None (find (has_name n) ds)
        → slice_cmp nat_cmp id d.id ≡ Greater → find (has_name n) (without id (d ∷ ds)) ≡ cond (has_in n (find (has_id id) (d ∷ ds))) None (find (has_name n) (d ∷ ds))
    greater later h =
        let beyond : find (has_id id) (d ∷ ds) ≡ find (has_id id) ds = rw h refl in
        let rest : find (has_name n) (d ∷ without id ds) ≡ cond (has_in n (find (has_id id) ds)) None (find (has_name n) (d ∷ ds)) =
        by_bool (has_name n d)
        (λ t. rw (found_unnamed n d (has_id id) ds t (keyed_apart d ds keyed)) (rw t refl))
        (λ f. rw f later) in
        ap (find (has_name n)) (without_greater id d ds h) ∙ rest ∙ ap (λ (o : Option Content). cond (has_in n o) None (find (has_name n) (d ∷ ds))) (sym beyond)

    go : find (has_name n) (without id ds) ≡ cond (has_in n (find (has_id id) ds)) None (find (has_name n) ds)
        → find (has_name n) (without id (d ∷ ds)) ≡ cond (has_in n (find (has_id id) (d ∷ ds))) None (find (has_name n) (d ∷ ds))
    go later = by_order (slice_cmp nat_cmp id d.id) less equal (greater later)

pub is_lt-Less : (o : Ordering) → is_lt o ≡ true → o ≡ Less
is_lt-Less Less h = refl
is_lt-Less Equal h = cc
is_lt-Less Greater h = cc

-- those below a resource that has a place are apart from it
apart_below : (c : Content) (cs : List Content) → All (λ d. d.id ≢ c.id → AreApart c d) cs → All (AreApart c) (below c.id cs)
apart_below c cs place =
    All-both (λ d. is_lt (slice_cmp nat_cmp d.id c.id) ≡ true) (λ d. d.id ≢ c.id → AreApart c d) (AreApart c)
    (λ d lower apart. apart (ids_differ d.id c.id (is_lt-Less _ lower)))
    (below c.id cs) (filter_passes _ cs) (All-filter _ (λ d. d.id ≢ c.id → AreApart c d) cs place)

-- who has a name when a resource is kept
pub named_keep : (n : Name) (c : Content) (cs : List Content) → All (λ d. d.id ≢ c.id → AreApart c d) cs
    → find (has_name n) (keep c cs) ≡ cond (has_name n c) (Some c) (find (has_name n) (without c.id cs))
named_keep n c cs place =
    by_bool (has_name n c)
    (λ t. find-append (has_name n) (below c.id cs) (c ∷ above c.id cs) ∙ rw (none_named n c (below c.id cs) t (apart_below c cs place)) (rw t refl))
    (λ f. find-append (has_name n) (below c.id cs) (c ∷ above c.id cs) ∙ rw f (sym (find-append (has_name n) (below c.id cs) (above c.id cs))))

-- the id of the one that has a name, when a resource is kept, and when one goes
pub owner_keep : (n : Name) (c : Content) (cs : List Content) → AreKeyed cs → All (λ d. d.id ≢ c.id → AreApart c d) cs
    → option_map (λ d. d.id) (find (has_name n) (keep c cs)) ≡ cond (has_name n c) (Some c.id) (cond (has_in n (find (has_id c.id) cs)) None (option_map (λ d. d.id) (find (has_name n) cs)))
owner_keep n c cs keyed place =
    ap (option_map (λ (d : Content). d.id)) (named_keep n c cs place ∙ ap (λ (o : Option Content). cond (has_name n c) (Some c) o) (named_without n c.id cs keyed))
    ∙ by_bool (has_name n c) (λ t. rw t refl) (λ f. rw f (by_bool (has_in n (find (has_id c.id) cs)) (λ t. rw t refl) (λ g. rw g refl)))

pub owner_without : (n : Name) (id : List ℕ) (cs : List Content) → AreKeyed cs
    → option_map (λ d. d.id) (find (has_name n) (without id cs)) ≡ cond (has_in n (find (has_id id) cs)) None (option_map (λ d. d.id) (find (has_name n) cs))
owner_without n id cs keyed =
    ap (option_map (λ (d : Content). d.id)) (named_without n id cs keyed)
    ∙ by_bool (has_in n (find (has_id id) cs)) (λ t. rw t refl) (λ g. rw g refl)

-- the one whose id is that of the one found by a test
pub found_by_id : (test : Content → Bool) (id : List ℕ) (cs : List Content) → AreKeyed cs → option_map (λ d. d.id) (find test cs) ≡ Some id → find (has_id id) cs ≡ find test cs
found_by_id test id [] keyed h = cc
found_by_id test id (d ∷ ds) keyed h = by_bool (test d) here (later (found_by_id test id ds (keyed_tail d ds keyed)))
  where
    here : test d ≡ true → find (has_id id) (d ∷ ds) ≡ find test (d ∷ ds)
    here t =
        let some : Some d.id ≡ Some id = rw t at h in
        let same : id ≡ d.id = cc in
        let tied : slice_cmp nat_cmp id d.id ≡ Equal = subst (λ (x : List ℕ). slice_cmp nat_cmp id x ≡ Equal) same (tied_itself nat_list_cmp_total id) in
        rw (tied, t) refl

    other : find (has_id id) ds ≡ find test ds → option_map (λ d. d.id) (find test ds) ≡ Some id → slice_cmp nat_cmp id d.id ≡ Equal → ⊥
    other rest found tied =
        let same : id ≡ d.id = exact_bytes id d.id tied in
        let none : find (has_id id) ds ≡ None = none_above id ds (subst (λ (x : List ℕ). AreAbove x ds) (sym same) (keyed_above d ds keyed)) in
        let nobody : None ≡ Some id = ap (option_map (λ (d : Content). d.id)) (sym none ∙ rest) ∙ found in cc

    later : (option_map (λ d. d.id) (find test ds) ≡ Some id → find (has_id id) ds ≡ find test ds) → test d ≡ false → find (has_id id) (d ∷ ds) ≡ find test (d ∷ ds)
    later go f =
        let found : option_map (λ d. d.id) (find test ds) ≡ Some id = rw f at h in
        let rest : find (has_id id) ds ≡ find test ds = go found in
        by_order (slice_cmp nat_cmp id d.id)
        (λ l. rw (l, f) rest) (λ e. absurd (other rest found e)) (λ g. rw (g, f) rest)

-- the one of a kind with an id is the one with the id, if it is of the kind
at_id : (kind : Kind) (id : List ℕ) (c : Content) → is_at kind id c ≡ (is_of kind c && has_id id c)
at_id kind id c = ap (λ (b : Bool). is_of kind c && b) (sym (is_eq-slice_cmp id c.id))

-- by the order of ids the resource of an id is found
pub found_of_id : (id : List ℕ) (cs : List Content) → find (has_id id) cs ≡ of_id id cs
found_of_id id cs = λ i. find (λ (c : Content). is_eq-slice_cmp id c.id i) cs

pub not_at : (kind : Kind) (id : List ℕ) (c : Content) → has_id id c ≡ false → is_at kind id c ≡ false
not_at kind id c h = at_id kind id c ∙ rw h (by_bool (is_of kind c) (λ t. rw t refl) (λ f. rw f refl))

pub none_at : (kind : Kind) (id : List ℕ) (cs : List Content) → AreAbove id cs → find (is_at kind id) cs ≡ None
none_at kind id [] up = refl
none_at kind id (c ∷ cs) up = rw (not_at kind id c (rw up.0 refl)) (none_at kind id cs up.1)

pub is_eq-Equal : (o : Ordering) → is_eq o ≡ true → o ≡ Equal
is_eq-Equal Less h = cc
is_eq-Equal Equal h = refl
is_eq-Equal Greater h = cc

pub found_at : (kind : Kind) (id : List ℕ) (cs : List Content) → AreKeyed cs → only_of kind (find (has_id id) cs) ≡ find (is_at kind id) cs
found_at kind id [] keyed = refl
found_at kind id (d ∷ ds) keyed = go (found_at kind id ds (keyed_tail d ds keyed))
  where
    here : has_id id d ≡ true → only_of kind (find (has_id id) (d ∷ ds)) ≡ find (is_at kind id) (d ∷ ds)
    here t =
        let same : id ≡ d.id = exact_bytes id d.id (is_eq-Equal (slice_cmp nat_cmp id d.id) t) in
        let none : find (is_at kind id) ds ≡ None = none_at kind id ds (subst (λ (x : List ℕ). AreAbove x ds) (sym same) (keyed_above d ds keyed)) in
        let at : is_at kind id d ≡ is_of kind d = at_id kind id d ∙ rw t (by_bool (is_of kind d) (λ u. rw u refl) (λ f. rw f refl)) in
        let found : find (has_id id) (d ∷ ds) ≡ Some d = rw t refl in
        ap (only_of kind) found ∙ (λ i. cond (sym at i) (Some d) (sym none i))

    go : only_of kind (find (has_id id) ds) ≡ find (is_at kind id) ds → only_of kind (find (has_id id) (d ∷ ds)) ≡ find (is_at kind id) (d ∷ ds)
    go rest = by_bool (has_id id d) here (λ f. rw (f, not_at kind id d f) rest)
