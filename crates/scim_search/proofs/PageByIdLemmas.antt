-- The parts that a pager takes of the resources with some ids.
use Rattle.std.proofs.Common.{◌≡◌, refl, sym, ◌∙◌, ap, subst, ℕ, Bool, List, [], ◌∷◌, ◌++◌, filter, append_assoc, inl, inr}
use Rattle.std.specs.Prelude.{Option, None, Some, find}
use Rattle.std.specs.BTreeSet.{BTreeSet}
use Rattle.std.specs.List.Sorted.{IsSorted, IsStrictlySortedBy}
use Rattle.std.specs.Ordering.{nat_cmp}
use Rattle.std.specs.Cmp.Lexicographic.{slice_cmp}
use Rattle.std.proofs.lemmas.Bool.{cases_Bool}
use Rattle.std.proofs.lemmas.List.Elements.{filter-append}
use Rattle.std.proofs.lemmas.List.Kept.{IsStrictlySortedBy-filter}
use Rattle.scim_schema.specs.declared.Kind.{Kind}
use Rattle.scim_cell.specs.Content.{Content}
use Rattle.scim_cell.specs.Kinds.{is_of, of_kind}
use Rattle.scim_cell.specs.Order.{id_cmp}
use Rattle.scim_view.specs.View.{Viewer}
use Rattle.scim_view.specs.Groups.{and_those, views, view_with_groups, with_groups, visible_with}
use Rattle.scim_view.proofs.Facts.{and_those_append}
use Rattle.scim_query.specs.declared.pagers.Pager.{Pager}
use Rattle.scim_query.specs.Pagers.{HasTaken}
use Rattle.scim_shelf.specs.Indexed.{before, has_id as is_with_id, only_of, picked}
use Rattle.scim_shelf.specs.Stores.{Store, IsStore, is_at}
use Rattle.scim_shelf.proofs.Facts.{filter_swap, found_at, picked_all}
use Rattle.scim_search.specs.PagesById.{at_ids, seen_of, TakesParts}
use Rattle.scim_search.specs.PossibleIds.{has_id}
use Rattle.scim_search.proofs.StoreViews.{made_ascends, made_views, strict_sorted}

-- ---- what a pager takes

pub takes_both : (first middle last : Pager) (ps qs : List Content) → TakesParts first ps middle → TakesParts middle qs last → TakesParts first (ps ++ qs) last
takes_both first middle last ps qs one other parts taken =
    subst (λ (xs : List Content). HasTaken xs last) (append_assoc parts ps qs) (other (parts ++ ps) (one parts taken))

-- ---- the resources with some ids

picked_append : (cs : List Content) (xs ys : List (List ℕ)) → picked cs (xs ++ ys) ≡ picked cs xs ++ picked cs ys
picked_append cs [] ys = refl
picked_append cs (x ∷ xs) ys = go (find (is_with_id x) cs) (picked_append cs xs ys)
  where
    go : (o : Option Content) → picked cs (xs ++ ys) ≡ picked cs xs ++ picked cs ys → before o (picked cs (xs ++ ys)) ≡ before o (picked cs xs) ++ picked cs ys
    go None same = same
    go (Some c) same = ap (λ (ds : List Content). c ∷ ds) same

at_both : (kind : Kind) (xs ys : List (List ℕ)) (cs : List Content) → at_ids kind (xs ++ ys) cs ≡ at_ids kind xs cs ++ at_ids kind ys cs
at_both kind xs ys cs = ap (of_kind kind) (picked_append cs xs ys) ∙ filter-append (is_of kind) (picked cs xs) (picked cs ys)

views_append : (v : Viewer) (gs cs ds : List Content) → views v gs (cs ++ ds) ≡ views v gs cs ++ views v gs ds
views_append v gs [] ds = refl
views_append v gs (c ∷ cs) ds =
    ap (and_those (view_with_groups v gs c)) (views_append v gs cs ds) ∙ and_those_append (view_with_groups v gs c) (views v gs cs) (views v gs ds)

-- the views of the resources with ids and with others are those of both
pub seen_both : (v : Viewer) (kind : Kind) (all xs ys : List (List ℕ)) (cs : List Content) → all ≡ xs ++ ys
    → seen_of v cs (at_ids kind xs cs) ++ seen_of v cs (at_ids kind ys cs) ≡ seen_of v cs (at_ids kind all cs)
seen_both v kind all xs ys cs same =
    sym (ap (λ (ids : List (List ℕ)). seen_of v cs (at_ids kind ids cs)) same ∙ ap (seen_of v cs) (at_both kind xs ys cs) ∙ views_append v _ (at_ids kind xs cs) (at_ids kind ys cs))

-- the resource of a kind with an id, if there is one
one_of_kind : (kind : Kind) (o : Option Content) → and_those (only_of kind o) [] ≡ of_kind kind (before o [])
one_of_kind kind None = refl
one_of_kind kind (Some c) = elim (cases_Bool (is_of kind c)) [ inl t ↦ rw t refl | inr f ↦ rw f refl ]

pub at_one : (base : List ℕ) (store : Store) → IsStore base store → (kind : Kind) (id : List ℕ) (found : Option Content) → found ≡ find (is_at kind id) store.resources
    → and_those found [] ≡ at_ids kind (id ∷ []) store.resources
at_one base store is kind id found same =
    ap (λ (o : Option Content). and_those o []) (same ∙ sym (found_at kind id store.resources is.keyed)) ∙ one_of_kind kind (find (is_with_id id) store.resources)

-- ids that ascend give the resources of the kind whose ids are among them, in their order
pub at_all : (base : List ℕ) (store : Store) → IsStore base store → (kind : Kind) (ids : BTreeSet (List ℕ)) (listed : List (List ℕ)) → listed ≡ ids.keys
    → IsStrictlySortedBy (slice_cmp nat_cmp) listed
    → at_ids kind listed store.resources ≡ filter (λ c. has_id ids c.id) (of_kind kind store.resources)
at_all base store is kind ids listed same ascend =
    let keys = subst (λ (xs : List (List ℕ)). IsStrictlySortedBy (slice_cmp nat_cmp) xs) same ascend in
    ap (λ (xs : List (List ℕ)). at_ids kind xs store.resources) same
    ∙ ap (of_kind kind) (picked_all store.resources is.keyed ids.keys keys)
    ∙ filter_swap (λ (c : Content). has_id ids c.id) (is_of kind) store.resources

-- ---- the order of views

whole_id : (v : Viewer) (gs : List Content) (c : Content) → (with_groups v gs c).id ≡ c.id
unfolding with_groups visible_with
whole_id v gs c = refl

-- the views of resources of a store are in order of id
pub views_in_order : (base : List ℕ) (store : Store) → IsStore base store → (v : Viewer) (gs : List Content) (kind : Kind) (test : Content → Bool)
    → IsSorted id_cmp (views v gs (filter test (of_kind kind store.resources)))
views_in_order base store is v gs kind test =
    let cs = filter test (of_kind kind store.resources) in
    let ascend : IsStrictlySortedBy id_cmp cs = IsStrictlySortedBy-filter id_cmp test (of_kind kind store.resources) (IsStrictlySortedBy-filter id_cmp (is_of kind) store.resources is.keyed.ascending) in
    subst (IsSorted id_cmp) (made_views v gs cs) (strict_sorted _ (made_ascends (with_groups v gs) v (whole_id v gs) cs ascend))
