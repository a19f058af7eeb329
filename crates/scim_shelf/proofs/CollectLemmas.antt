-- How a collection is made of the resources of a shelf, which are shown by kinds.
use Rattle.std.proofs.Common.{◌≡◌, ◌≢◌, refl, sym, ◌∙◌, ap, subst, ℕ, true, false, List, [], ◌∷◌, ◌++◌}
use Rattle.std.specs.Prelude.{All}
use Rattle.std.specs.List.{FoldsTo}
use Rattle.std.specs.Ordering.{nat_cmp}
use Rattle.std.specs.declared.cmp.Ordering.TheVariants.{Less}
use Rattle.std.specs.Cmp.Lexicographic.{slice_cmp}
use Rattle.std.proofs.lemmas.List.Elements.{All-nil, All-cons, All-head, All-tail, All-filter, All-weaker, All-from_recursion, recursion_from_All}
use denote.Enum.Bare.{sameb}
use Rattle.scim_schema.specs.declared.Kind.{Kind}
use Rattle.scim_schema.specs.declared.Kind.TheVariants.{User, Group}
use Rattle.scim_schema.specs.contracts.Kind.{the_type as the_kind}
use Rattle.scim_cell.specs.Content.{Content}
use Rattle.scim_cell.specs.Kinds.{is_of, of_kind}
use Rattle.scim_value.specs.Uniqueness.{AreApart}
use Rattle.scim_shelf.specs.declared.copies.Collecting.{Collecting}
use Rattle.scim_shelf.specs.Stores.{AreKeyed, HasPlace, keep}
use Rattle.scim_shelf.specs.Collections.{IsCollection}
use Rattle.scim_shelf.specs.code.Copies.{Keeps}
use Rattle.scim_shelf.proofs.PlaceLemmas.{AreAbove, reversed, below_none, above_all, keep_greater}
use Rattle.scim_shelf.proofs.StoreLemmas.{All-both, All-keep, apart_back, keyed_above, keyed_apart, keyed_tail}

-- these resources, kept one after another among others
abbrev kept : List Content → List Content → List Content
kept [] cs = cs
kept (x ∷ xs) cs = kept xs (keep x cs)

-- what holds of all of some holds of all of these, which are among them
abbrev AreAmong : List Content → List Content → Type 1
AreAmong cs xs = (P : Content → Type 0) → All P cs → All P xs

-- what two resources of a store are to each other
abbrev Fits : Content → Content → Type 0
Fits c d = (d.id ≡ c.id → d.kind ≡ c.kind) × (d.id ≢ c.id → AreApart c d)

apart_fits : (c d : Content) → AreApart c d → Fits c d
apart_fits c d apart = ((λ same. absurd (apart.ids (sym same))), (λ other. apart))

self_fits : (c : Content) → Fits c c
self_fits c = ((λ same. refl), (λ other. absurd (other refl)))

place : (c : Content) (cs : List Content) → All (Fits c) cs → HasPlace cs c
place c cs fits = record {
  kinds = All-weaker (Fits c) (λ d. d.id ≡ c.id → d.kind ≡ c.kind) (λ d f. f.0) cs fits;
  names = All-weaker (Fits c) (λ d. d.id ≢ c.id → AreApart c d) (λ d f. f.1) cs fits;
}

-- each of the resources of a store fits all of them
all_fit : (cs : List Content) → AreKeyed cs → All (λ c. All (Fits c) cs) cs
all_fit [] keyed = All-nil _
all_fit (d ∷ ds) keyed =
    let apart : All (AreApart d) ds = keyed_apart d ds keyed in
    All-cons (λ c. All (Fits c) (d ∷ ds)) d ds
    (All-cons (Fits d) d ds (self_fits d) (All-weaker (AreApart d) (Fits d) (λ e a. apart_fits d e a) ds apart))
    (All-both (AreApart d) (λ c. All (Fits c) ds) (λ c. All (Fits c) (d ∷ ds)) (λ c a f. All-cons (Fits c) d ds (apart_fits c d (apart_back d c a)) f) ds apart
    (all_fit ds (keyed_tail d ds keyed)))

among_head : (cs : List Content) (x : Content) (xs : List Content) → AreAmong cs (x ∷ xs) → (P : Content → Type 0) → All P cs → P x
among_head cs x xs among P all = All-head P x xs (among P all)

-- a visitor keeps a resource among those that it has
abbrev pub KeepsAmong : {V : Type 0} → (List Content → V → Type 0) → V → Content → V → Type 0
KeepsAmong Has old c new = (cs : List Content) → Has cs old → HasPlace cs c → Has (keep c cs) new

-- resources of a store that are shown are kept among those that were
shown_kept : {V : Type 0} (Has : List Content → V → Type 0) (cs xs acc : List Content) (old new : V) → All (λ c. All (Fits c) cs) cs → AreAmong cs xs → AreAmong cs acc
    → Has acc old → FoldsTo (KeepsAmong Has) old xs new → Has (kept xs acc) new
shown_kept Has cs [] acc old new fit here there is folds = subst (λ x. Has acc x) folds is
shown_kept Has cs (x ∷ xs) acc old new fit here there is folds =
    let own : All (Fits x) acc = there (Fits x) (among_head cs x xs here (λ c. All (Fits c) cs) fit) in
    shown_kept Has cs xs (keep x acc) folds.0 new fit (λ P all. All-tail P x xs (here P all))
    (λ P all. All-keep P x acc (among_head cs x xs here P all) (there P all)) (folds.1 acc is (place x acc own)) folds.2

All-kept : (P : Content → Type 0) (xs acc : List Content) → All P xs → All P acc → All P (kept xs acc)
All-kept P [] acc here there = there
All-kept P (x ∷ xs) acc here there = All-kept P xs (keep x acc) (All-tail P x xs here) (All-keep P x acc (All-head P x xs here) there)

above_kind : (id : List ℕ) (kind : Kind) (cs : List Content) → AreAbove id cs → AreAbove id (of_kind kind cs)
above_kind id kind cs up =
    recursion_from_All (λ c. slice_cmp nat_cmp id c.id ≡ Less) (of_kind kind cs)
    (All-filter (is_of kind) (λ c. slice_cmp nat_cmp id c.id ≡ Less) cs (All-from_recursion (λ c. slice_cmp nat_cmp id c.id ≡ Less) cs up))

above_kept : (id : List ℕ) (xs acc : List Content) → AreAbove id xs → AreAbove id acc → AreAbove id (kept xs acc)
above_kept id xs acc here there =
    recursion_from_All (λ c. slice_cmp nat_cmp id c.id ≡ Less) (kept xs acc)
    (All-kept (λ c. slice_cmp nat_cmp id c.id ≡ Less) xs acc (All-from_recursion (λ c. slice_cmp nat_cmp id c.id ≡ Less) xs here)
    (All-from_recursion (λ c. slice_cmp nat_cmp id c.id ≡ Less) acc there))

-- one that is below all others stays the first
kept_above : (c : Content) (xs acc : List Content) → AreAbove c.id xs → kept xs (c ∷ acc) ≡ c ∷ kept xs acc
kept_above c [] acc up = refl
kept_above c (x ∷ xs) acc up = ap (kept xs) (keep_greater x c acc (reversed c.id x.id Less up.0)) ∙ kept_above c xs (keep x acc) up.1

keep_first : (c : Content) (cs : List Content) → AreAbove c.id cs → keep c cs ≡ c ∷ cs
keep_first c cs up = λ i. below_none c.id cs up i ++ c ∷ above_all c.id cs up i

-- first the users are kept, and then the groups: those are all, in their order
by_kinds : (cs : List Content) → AreKeyed cs → kept (of_kind Group cs) (kept (of_kind User cs) []) ≡ cs
by_kinds [] keyed = refl
by_kinds (c ∷ cs) keyed = go c.kind refl (by_kinds cs (keyed_tail c cs keyed))
  where
    up : AreAbove c.id cs
    up = keyed_above c cs keyed

    users : List Content
    users = kept (of_kind User cs) []

    rest : kept (of_kind Group cs) users ≡ cs → kept (of_kind Group cs) (c ∷ users) ≡ c ∷ cs
    rest same = kept_above c (of_kind Group cs) users (above_kind c.id Group cs up) ∙ ap (λ (xs : List Content). c ∷ xs) same

    go : (k : Kind) → c.kind ≡ k → kept (of_kind Group cs) users ≡ cs → kept (of_kind Group (c ∷ cs)) (kept (of_kind User (c ∷ cs)) []) ≡ c ∷ cs
    go User is same =
        let user : is_of User c ≡ true = ap (λ k. sameb the_kind k User) is in
        let other : is_of Group c ≡ false = ap (λ k. sameb the_kind k Group) is in
        rw (user, other) (ap (kept (of_kind Group cs)) (kept_above c (of_kind User cs) [] (above_kind c.id User cs up)) ∙ rest same)
    go Group is same =
        let other : is_of User c ≡ false = ap (λ k. sameb the_kind k User) is in
        let group : is_of Group c ≡ true = ap (λ k. sameb the_kind k Group) is in
        rw (other, group) (ap (kept (of_kind Group cs)) (keep_first c users (above_kept c.id (of_kind User cs) [] (above_kind c.id User cs up) tt)) ∙ rest same)

-- what has been shown first the users of a store, and then its groups, has all of it
pub all_shown : (cs : List Content) (first middle last : Collecting) → AreKeyed cs → IsCollection [] first.collection
    → FoldsTo Keeps first (of_kind User cs) middle → FoldsTo Keeps middle (of_kind Group cs) last → IsCollection cs last.collection
all_shown cs first middle last keyed is users groups =
    let Has : List Content → Collecting → Type 0 = λ xs x. IsCollection xs x.collection in
    subst (λ (xs : List Content). IsCollection xs last.collection) (by_kinds cs keyed)
    (shown_kept Has cs (of_kind Group cs) (kept (of_kind User cs) []) middle last (all_fit cs keyed) (λ P all. All-filter (is_of Group) P cs all)
    (λ P all. All-kept P (of_kind User cs) [] (All-filter (is_of User) P cs all) (All-nil P))
    (shown_kept Has cs (of_kind User cs) [] first middle (all_fit cs keyed) (λ P all. All-filter (is_of User) P cs all) (λ P all. All-nil P) is users)
    groups)

-- all of them are kept in their order
in_order : (cs : List Content) → AreKeyed cs → kept cs [] ≡ cs
in_order [] keyed = refl
in_order (c ∷ cs) keyed = kept_above c cs [] (keyed_above c cs keyed) ∙ ap (λ (xs : List Content). c ∷ xs) (in_order cs (keyed_tail c cs keyed))

-- a visitor that was given all resources of a store has kept all of them
pub kept_all : {V : Type 0} (Has : List Content → V → Type 0) (cs : List Content) (first last : V) → AreKeyed cs → Has [] first → FoldsTo (KeepsAmong Has) first cs last → Has cs last
kept_all Has cs first last keyed is folds =
    subst (λ (xs : List Content). Has xs last) (in_order cs keyed) (shown_kept Has cs cs [] first last (all_fit cs keyed) (λ P all. all) (λ P all. All-nil P) is folds)
