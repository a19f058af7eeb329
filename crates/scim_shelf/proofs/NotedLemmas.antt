-- The notes of a collection, as resources come and go.
use Rattle.std.proofs.Common.{◌≡◌, refl, sym, ◌∙◌, ap, subst, ℕ, Bool, true, false, ◌&&◌, not, cond, List, [], ◌∷◌}
use Rattle.std.specs.Prelude.{find, Option, None, Some}
use Rattle.std.specs.Ordering.{nat_cmp, is_eq}
use Rattle.std.specs.declared.cmp.Ordering.TheVariants.{Less, Equal, Greater}
use Rattle.std.specs.Cmp.Lexicographic.{slice_cmp, nat_list_eq_equiv}
use Rattle.std.proofs.lemmas.Cmp.{tied_itself, nat_list_cmp_total}
use Rattle.std.proofs.lemmas.Map.Lookups.{exact_bytes}
use Rattle.std.proofs.lemmas.Map.Text.{is_eq-slice_cmp}
use Rattle.scim_cell.specs.Content.{Content}
use Rattle.scim_cell.specs.Order.{id_cmp}
use Rattle.scim_value.specs.declared.uniqueness.UniqueName.{UniqueName}
use Rattle.scim_shelf.specs.declared.text_index.TextIndex.{TextIndex as Kept}
use Rattle.scim_shelf.specs.Stores.{AreKeyed, keep, without}
use Rattle.scim_shelf.specs.Owners.{is_among}
use Rattle.scim_shelf.specs.IndexedTexts.{is_under, is_under_in}
use Rattle.scim_shelf.specs.TextIndex.{is_same, is_noted, IsUnnoted, HasSameNotes}
use Rattle.scim_shelf.specs.Indexed.{has_id}
use Rattle.scim_shelf.proofs.PlaceLemmas.{AreAbove, by_order, above_lower, keep_less, keep_equal, keep_greater, without_less, without_equal, without_greater}
use Rattle.scim_shelf.proofs.StoreLemmas.{keyed_above, keyed_tail}
use Rattle.scim_shelf.proofs.NameLemmas.{by_bool, is_eq-Equal, none_above}

-- ids that are the same, and either way round
pub same_id : (id i : List ℕ) → is_same id i ≡ true → id ≡ i
same_id id i h = exact_bytes id i (is_eq-Equal (slice_cmp nat_cmp id i) h)

pub same_flips : (id i : List ℕ) → is_same id i ≡ is_same i id
same_flips id i = is_eq-slice_cmp id i ∙ nat_list_eq_equiv.symm id i ∙ sym (is_eq-slice_cmp i id)

pub id_itself : (id : List ℕ) → is_same id id ≡ true
id_itself id = ap is_eq (tied_itself nat_list_cmp_total id)

either_way : (b : Bool) (o : Option Content) → o ≡ cond b o o
either_way true o = refl
either_way false o = refl

-- the one with an id when a resource is kept
found_keep : (i : List ℕ) (c : Content) (cs : List Content) → AreKeyed cs → find (has_id i) (keep c cs) ≡ cond (has_id i c) (Some c) (find (has_id i) cs)
found_keep i c [] keyed = refl
found_keep i c (d ∷ ds) keyed = go (found_keep i c ds (keyed_tail d ds keyed))
  where
    up : AreAbove d.id ds
    up = keyed_above d ds keyed

    Wanted : Type 0
    Wanted = find (has_id i) (keep c (d ∷ ds)) ≡ cond (has_id i c) (Some c) (find (has_id i) (d ∷ ds))

    equal : id_cmp c d ≡ Equal → Wanted
    equal h = ap (find (has_id i)) (keep_equal c d ds h up) ∙ by_bool (has_id i c)
        (λ t. rw t refl)
        (λ f. let other : has_id i d ≡ false = subst (λ (x : List ℕ). is_same i x ≡ false) (exact_bytes c.id d.id h) f in rw (f, other) refl)

    greater : find (has_id i) (keep c ds) ≡ cond (has_id i c) (Some c) (find (has_id i) ds) → id_cmp c d ≡ Greater → Wanted
    greater rest h = ap (find (has_id i)) (keep_greater c d ds h) ∙ by_bool (has_id i c)
        (λ t.
        let here : i ≡ c.id = same_id i c.id t in
        let other : has_id i d ≡ false = subst (λ (x : List ℕ). is_same x d.id ≡ false) (sym here) (ap is_eq h) in
        let found : find (has_id i) (keep c ds) ≡ Some c = rw t at rest in
        rw (t, other) found)
        (λ f.
        let found : find (has_id i) (keep c ds) ≡ find (has_id i) ds = rw f at rest in
        rw f (ap (λ (o : Option Content). cond (has_id i d) (Some d) o) found))

    go : find (has_id i) (keep c ds) ≡ cond (has_id i c) (Some c) (find (has_id i) ds) → Wanted
    go rest = by_order (id_cmp c d) (λ h. ap (find (has_id i)) (keep_less c d ds h up)) equal (greater rest)

-- the one with an id when one goes
found_without : (i id : List ℕ) (cs : List Content) → AreKeyed cs → find (has_id i) (without id cs) ≡ cond (is_same i id) None (find (has_id i) cs)
found_without i id [] keyed = either_way (is_same i id) None
found_without i id (d ∷ ds) keyed = go (found_without i id ds (keyed_tail d ds keyed))
  where
    up : AreAbove d.id ds
    up = keyed_above d ds keyed

    Wanted : Type 0
    Wanted = find (has_id i) (without id (d ∷ ds)) ≡ cond (is_same i id) None (find (has_id i) (d ∷ ds))

    none : (xs : List Content) → is_same i id ≡ true → AreAbove id xs → find (has_id i) xs ≡ None
    none xs t beyond = none_above i xs (subst (λ (x : List ℕ). AreAbove x xs) (sym (same_id i id t)) beyond)

    less : slice_cmp nat_cmp id d.id ≡ Less → Wanted
    less h = ap (find (has_id i)) (without_less id d ds h up) ∙ by_bool (is_same i id)
        (λ t. let nothing : find (has_id i) (d ∷ ds) ≡ None = none (d ∷ ds) t (h, above_lower id d.id ds h up) in nothing ∙ rw t refl)
        (λ f. rw f refl)

    equal : slice_cmp nat_cmp id d.id ≡ Equal → Wanted
    equal h = ap (find (has_id i)) (without_equal id d ds h up) ∙ by_bool (is_same i id)
        (λ t. none ds t (subst (λ (x : List ℕ). AreAbove x ds) (sym (exact_bytes id d.id h)) up) ∙ rw t refl)
        (λ f. let other : has_id i d ≡ false = subst (λ (x : List ℕ). is_same i x ≡ false) (exact_bytes id d.id h) f in rw (f, other) refl)

    greater : find (has_id i) (without id ds) ≡ cond (is_same i id) None (find (has_id i) ds) → slice_cmp nat_cmp id d.id ≡ Greater → Wanted
    greater rest h = ap (find (has_id i)) (without_greater id d ds h) ∙ by_bool (is_same i id)
        (λ t.
        let other : has_id i d ≡ false = subst (λ (x : List ℕ). is_same x d.id ≡ false) (sym (same_id i id t)) (ap is_eq h) in
        let gone : find (has_id i) (without id ds) ≡ None = rw t at rest in
        rw (t, other) gone)
        (λ f.
        let stays : find (has_id i) (without id ds) ≡ find (has_id i) ds = rw f at rest in
        rw f (ap (λ (o : Option Content). cond (has_id i d) (Some d) o) stays))

    go : find (has_id i) (without id ds) ≡ cond (is_same i id) None (find (has_id i) ds) → Wanted
    go rest = by_order (slice_cmp nat_cmp id d.id) less equal (greater rest)

and_false : (b : Bool) → (b && false) ≡ false
and_false true = refl
and_false false = refl

and_right : (a b : Bool) → (a && b) ≡ true → b ≡ true
and_right true b h = h
and_right false b h = cc

not_is : (b : Bool) → not b ≡ true → b ≡ false
not_is true h = cc
not_is false h = refl

-- the texts that come of a resource aren't noted yet
pub come_unnoted : (old : Kept) (texts : List UniqueName) (c : Content) (cs : List Content)
    → ((q : UniqueName) (i : List ℕ) → is_noted old q i ≡ is_under_in q (find (has_id i) cs))
    → ((q : UniqueName) → is_among q texts ≡ (is_under q c && not (is_under_in q (find (has_id c.id) cs)))) → IsUnnoted old texts c.id
come_unnoted old texts c cs noted come q among =
    noted q c.id
    ∙ not_is (is_under_in q (find (has_id c.id) cs)) (and_right (is_under q c) (not (is_under_in q (find (has_id c.id) cs))) (sym (come q) ∙ among))

-- where notes are let go that weren't there, those that stay are as they were
pub taken_back : (old mid new : Kept) (texts : List UniqueName) (id : List ℕ) → IsUnnoted old texts id
    → ((q : UniqueName) (i : List ℕ) → (is_among q texts && is_same id i) ≡ false → is_noted mid q i ≡ is_noted old q i)
    → ((q : UniqueName) (i : List ℕ) → is_noted new q i ≡ cond (is_among q texts && is_same id i) false (is_noted mid q i)) → HasSameNotes old new
taken_back old mid new texts id unnoted others left q i = left q i ∙ by_bool (is_among q texts && is_same id i)
    (λ t.
    let same : id ≡ i = same_id id i (and_right (is_among q texts) (is_same id i) t) in
    rw t (sym (unnoted q (and_left (is_among q texts) (is_same id i) t)) ∙ ap (is_noted old q) same))
    (λ f. rw f (others q i f))
  where
    and_left : (a b : Bool) → (a && b) ≡ true → a ≡ true
    and_left true b h = refl
    and_left false b h = cc

-- one id's note, where it was noted before or not, and is to be or not
changed_note : (before now : Bool) → cond (before && not now) false (cond (now && not before) true before) ≡ now
changed_note true true = refl
changed_note true false = refl
changed_note false true = refl
changed_note false false = refl

-- the notes when a resource is kept: those of it that come, and without those that go
pub noted_keep : (old mid new : Kept) (q : UniqueName) (i : List ℕ) (c : Content) (cs : List Content) → AreKeyed cs
    → ((j : List ℕ) → is_noted old q j ≡ is_under_in q (find (has_id j) cs))
    → is_noted mid q i ≡ cond ((is_under q c && not (is_under_in q (find (has_id c.id) cs))) && is_same c.id i) true (is_noted old q i)
    → is_noted new q i ≡ cond ((is_under_in q (find (has_id c.id) cs) && not (is_under q c)) && is_same c.id i) false (is_noted mid q i)
    → is_noted new q i ≡ is_under_in q (find (has_id i) (keep c cs))
noted_keep old mid new q i c cs keyed was come gone =
    gone ∙ ap (cond (goes && is_same c.id i) false) (come ∙ ap (cond (comes && is_same c.id i) true) (was i))
    ∙ by_bool (is_same c.id i) here elsewhere ∙ ap (is_under_in q) (sym (found_keep i c cs keyed))
  where
    goes : Bool
    goes = is_under_in q (find (has_id c.id) cs) && not (is_under q c)

    comes : Bool
    comes = is_under q c && not (is_under_in q (find (has_id c.id) cs))

    Wanted : Type 0
    Wanted = cond (goes && is_same c.id i) false (cond (comes && is_same c.id i) true (is_under_in q (find (has_id i) cs)))
        ≡ is_under_in q (cond (has_id i c) (Some c) (find (has_id i) cs))

    and_true : (b : Bool) → (b && true) ≡ b
    and_true true = refl
    and_true false = refl

    here : is_same c.id i ≡ true → Wanted
    here t =
        let own : has_id i c ≡ true = same_flips i c.id ∙ t in
        let same : i ≡ c.id = same_id i c.id own in
        rw (t, own)
        ((λ k. cond (and_true goes k) false (cond (and_true comes k) true (is_under_in q (find (has_id (same k)) cs))))
        ∙ changed_note (is_under_in q (find (has_id c.id) cs)) (is_under q c))

    elsewhere : is_same c.id i ≡ false → Wanted
    elsewhere f =
        let other : has_id i c ≡ false = same_flips i c.id ∙ f in
        rw (f, other) (λ k. cond (and_false goes k) false (cond (and_false comes k) true (is_under_in q (find (has_id i) cs))))

-- the notes when a resource goes, of which all go that it had
pub noted_without : (old new : Kept) (q : UniqueName) (i id : List ℕ) (cs : List Content) → AreKeyed cs
    → is_noted old q i ≡ is_under_in q (find (has_id i) cs)
    → is_noted new q i ≡ cond (is_under_in q (find (has_id id) cs) && is_same id i) false (is_noted old q i)
    → is_noted new q i ≡ is_under_in q (find (has_id i) (without id cs))
noted_without old new q i id cs keyed was gone =
    gone ∙ ap (cond (is_under_in q (find (has_id id) cs) && is_same id i) false) was
    ∙ by_bool (is_same id i) here elsewhere ∙ ap (is_under_in q) (sym (found_without i id cs keyed))
  where
    Wanted : Type 0
    Wanted = cond (is_under_in q (find (has_id id) cs) && is_same id i) false (is_under_in q (find (has_id i) cs)) ≡ is_under_in q (cond (is_same i id) None (find (has_id i) cs))

    nothing : (b : Bool) → cond (b && true) false b ≡ false
    nothing true = refl
    nothing false = refl

    here : is_same id i ≡ true → Wanted
    here t =
        let own : is_same i id ≡ true = same_flips i id ∙ t in
        rw (t, own)
        ((λ k. cond (is_under_in q (find (has_id id) cs) && true) false (is_under_in q (find (has_id (same_id i id own k)) cs)))
        ∙ nothing (is_under_in q (find (has_id id) cs)))

    elsewhere : is_same id i ≡ false → Wanted
    elsewhere f =
        let other : is_same i id ≡ false = same_flips i id ∙ f in
        rw (f, other) (λ k. cond (and_false (is_under_in q (find (has_id id) cs)) k) false (is_under_in q (find (has_id i) cs)))
