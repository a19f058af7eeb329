-- The page of a query that matches all resources of a kind.
use Rattle.std.proofs.Common.{◌≡◌, refl, sym, ◌∙◌, ap, subst, ℕ, ◌-◌, true, List, [], ◌∷◌, ◌++◌, map, filter, take, drop, length, append_assoc}
use Rattle.std.specs.Prelude.{All, None}
use Rattle.std.specs.List.{FoldsTo}
use Rattle.std.specs.List.Sorted.{IsSorted}
use Rattle.std.proofs.lemmas.List.{take-map, drop-map, length-map, append-nil}
use Rattle.std.proofs.lemmas.List.Elements.{All-head, All-tail, filter_passes}
use Rattle.std.proofs.lemmas.List.Kept.{IsStrictlySortedBy-filter}
use Rattle.std.proofs.lemmas.Simd.{map-map}
use denote.Enum.Bare.{same_true}
use Rattle.scim_schema.specs.declared.Kind.{Kind}
use Rattle.scim_schema.specs.declared.Kind.TheVariants.{Group}
use Rattle.scim_schema.specs.contracts.Kind.{the_type as the_kind}
use Rattle.scim_cell.specs.Content.{Content}
use Rattle.scim_cell.specs.Kinds.{is_of, of_kind}
use Rattle.scim_cell.specs.Order.{id_cmp}
use Rattle.scim_view.specs.View.{Viewer, sees}
use Rattle.scim_view.specs.Groups.{with_groups, visible_with, views}
use Rattle.scim_query.specs.declared.queries.Query.{Query}
use Rattle.scim_query.specs.declared.queries.Page.{Page}
use Rattle.scim_query.specs.Pages.{matching, first_position, slice_of, IsPage}
use Rattle.scim_query.proofs.Facts.{in_order_of_id}
use Rattle.scim_shelf.specs.Stores.{Store, IsStore, window}
use Rattle.scim_search.specs.declared.unfiltered.IdVisitor.{IdVisitor}
use Rattle.scim_search.specs.Unfiltered.{TakesId}
use Rattle.scim_search.specs.declared.walks.Walk.{Walk}
use Rattle.scim_search.specs.declared.walks.WalkScope.TheVariants as scope
use Rattle.scim_search.specs.ShownItems.{AreItems, SeenResource, item}
use Rattle.scim_search.proofs.StoreViews.{made_ascends, made_views, strict_sorted}
use Rattle.scim_search.proofs.WalkLemmas.{all_seen, all_walked}

abbrev ids : List Content → List (List ℕ)
ids cs = map (λ (c : Content). c.id) cs

-- a visitor that has taken some resources has their ids
pub took_ids : (first : IdVisitor) (cs : List Content) (last : IdVisitor) → FoldsTo TakesId first cs last
    → ids last.items.items ≡ ids first.items.items ++ ids cs
took_ids first [] last same = rw (← same) (sym (append-nil (ids first.items.items)))
took_ids first (c ∷ cs) last folds =
    took_ids folds.0 cs last folds.2 ∙ ap (λ (xs : List (List ℕ)). xs ++ ids cs) folds.1 ∙ append_assoc (ids first.items.items) (c.id ∷ []) (ids cs)

-- a query with no filter matches all
all_match : (ps : List Content) → matching None ps ≡ ps
all_match [] = refl
all_match (p ∷ ps) = ap (λ (xs : List Content). p ∷ xs) (all_match ps)

module _ (v : Viewer) (gs : List Content) where
  -- if the viewer sees all resources, the view has all of them
  all_kept : (cs : List Content) → All (λ c. sees v c ≡ true) cs → filter (sees v) cs ≡ cs
  all_kept [] seen = refl
  all_kept (c ∷ cs) seen = rw (All-head (λ d. sees v d ≡ true) c cs seen) (ap (λ (ds : List Content). c ∷ ds) (all_kept cs (All-tail (λ d. sees v d ≡ true) c cs seen)))

  all_viewed : (cs : List Content) → All (λ c. sees v c ≡ true) cs → views v gs cs ≡ map (with_groups v gs) cs
  all_viewed [] seen = refl
  all_viewed (c ∷ cs) seen =
      rw (All-head (λ d. sees v d ≡ true) c cs seen) (ap (λ (ds : List Content). with_groups v gs c ∷ ds) (all_viewed cs (All-tail (λ d. sees v d ≡ true) c cs seen)))

  whole_id : (c : Content) → (with_groups v gs c).id ≡ c.id
  unfolding with_groups visible_with
  whole_id c = refl

module _ (v : Viewer) (kind : Kind) (query : Query) (base : List ℕ) (store : Store) (is : IsStore base store) (seen : (c : Content) → c.kind ≡ kind → sees v c ≡ true) where
  abbrev all : List Content
  all = of_kind kind store.resources

  abbrev groups : List Content
  groups = of_kind Group store.resources

  abbrev shown : List Content
  shown = window (query.start - 1) query.count all

  each_seen : All (λ c. sees v c ≡ true) all
  each_seen k d lt = seen _ (same_true the_kind tt _ kind (filter_passes (is_of kind) store.resources k d lt))

  -- the items of a window are those for the resources in the window
  pub window_items : (parts items : List Content) → ids parts ≡ ids shown → AreItems v query.wanted kind store.resources parts items
      → items ≡ map (item v query.wanted groups) shown
  window_items parts items same are =
      let walk : Walk = record { kind = kind; scope = scope.WholeKind } in
      let found = all_seen v walk base store is in
      let part : List (SeenResource v kind store.resources) = take query.count (drop (query.start - 1) found.0) in
      let own : map (λ (x : SeenResource v kind store.resources). x.own) found.0 ≡ all = found.1 ∙ ap (filter (sees v)) (sym (all_walked all)) ∙ all_kept v groups all each_seen in
      let those : map (λ (x : SeenResource v kind store.resources). x.own) part ≡ shown
      = sym (take-map (λ (x : SeenResource v kind store.resources). x.own) query.count (drop (query.start - 1) found.0))
      ∙ ap (take query.count) (sym (drop-map (λ (x : SeenResource v kind store.resources). x.own) (query.start - 1) found.0) ∙ ap (drop (query.start - 1)) own) in
      are part (same ∙ ap ids (sym those) ∙ map-map (λ (c : Content). c.id) (λ (x : SeenResource v kind store.resources). x.own) part)
      ∙ sym (map-map (item v query.wanted groups) (λ (x : SeenResource v kind store.resources). x.own) part) ∙ ap (map (item v query.wanted groups)) those

  -- the page of a query without a filter or a sort key is a window of all resources
  pub window_page : (page : Page) → query.filter ≡ None → query.sort_by ≡ None → page.total ≡ length all → page.start ≡ first_position query.start
      → page.items.items ≡ map (with_groups v groups) shown → IsPage (views v groups all) query page
  window_page page no_filter no_key total start items =
      let viewed : views v groups all ≡ map (with_groups v groups) all = all_viewed v groups all each_seen in
      let matched : matching query.filter (views v groups all) ≡ map (with_groups v groups) all = rw no_filter (all_match (views v groups all) ∙ viewed) in
      let ascend : IsSorted id_cmp (views v groups all) = subst (IsSorted id_cmp) (made_views v groups all) (strict_sorted _ (made_ascends (with_groups v groups) v (whole_id v groups) all (IsStrictlySortedBy-filter id_cmp (is_of kind) store.resources is.keyed.ascending))) in
      record {
        total = total ∙ sym (ap length matched ∙ length-map all (with_groups v groups));
        start = start;
        sorted = matching query.filter (views v groups all);
        is_sorted = in_order_of_id query (views v groups all) no_key (λ none. ascend);
        items =
            items ∙ sym (ap (slice_of query.start query.count) matched
            ∙ ap (take query.count) (drop-map (with_groups v groups) (query.start - 1) all)
            ∙ take-map (with_groups v groups) query.count (drop (query.start - 1) all));
      }
