-- The page of a list that has only the resource with an id, by whether that resource matches.
use Rattle.std.proofs.Common.{◌≡◌, refl, sym, ◌∙◌, ap, subst, ℕ, ◌-◌, Bool, true, false, List, [], ◌∷◌, map, take, drop, length, ◌≤◌, inl, inr, arith}
use Rattle.std.specs.Prelude.{All, Option, None, Some, find, if◌then◌else◌}
use Rattle.std.specs.List.{FoldsTo}
use Rattle.std.proofs.Math.Seq.{drop-nil, take-nil}
use Rattle.std.proofs.lemmas.Bool.{cases_Bool}
use Rattle.std.proofs.lemmas.List.{take-map, drop-map, length-map}
use Rattle.std.proofs.lemmas.List.Elements.{All-head, All-tail}
use Rattle.std.proofs.lemmas.List.Sorted.{IsPermutation-refl}
use Rattle.std.proofs.lemmas.Slice.Eq.{bytes_eq-Decides}
use Rattle.std.proofs.lemmas.Option.{same_Some}
use denote.Enum.Bare.{same_true}
use Rattle.scim_schema.specs.declared.Attribute.{Attribute}
use Rattle.scim_schema.specs.declared.Kind.{Kind}
use Rattle.scim_schema.specs.declared.Kind.TheVariants.{Group}
use Rattle.scim_schema.specs.contracts.Kind.{the_type as the_kind}
use Rattle.scim_schema.proofs.Facts.{and_first, and_second}
use Rattle.scim_cell.specs.Content.{Content, IsPart}
use Rattle.scim_cell.specs.Equality.{is_same_id}
use Rattle.scim_cell.specs.Kinds.{is_of, of_kind}
use Rattle.scim_view.specs.View.{Viewer, sees, viewer_of}
use Rattle.scim_view.specs.Groups.{with_groups, views}
use Rattle.scim_query.specs.ClientSearches.{IsShownPage}
use Rattle.scim_query.specs.NamedAttributes.{attributes_of, names_groups}
use Rattle.scim_query.specs.Pages.{is_match, matching, first_position, slice_of, IsInOrder}
use Rattle.scim_query.specs.declared.queries.Page.{Page}
use Rattle.scim_query.specs.declared.queries.Query.{Query}
use Rattle.scim_shelf.specs.Stores.{Store, IsStore, is_at, those_at, those_found}
use Rattle.scim_search.specs.declared.id_matches.MatchVisitor.{MatchVisitor}
use Rattle.scim_search.specs.IdMatches.{TakesMatch, is_seen_match}
use Rattle.scim_search.specs.PatternCache.{Recalls}
use Rattle.scim_search.specs.ReadPatterns.{ArePatterns}
use Rattle.scim_search.specs.ShownItems.{AreItems, SeenResource}
use Rattle.scim_search.proofs.ShownPageLemmas.{shown_by}
use Rattle.scim_search.proofs.StoreViews.{parts_of}
use Rattle.scim_search.proofs.WalkLemmas.{alike_seen}

-- ---- what a look-up finds

-- what a look-up finds passes its test, and has what all have
found_among : (P : Content → Type 0) (test : Content → Bool) (cs : List Content) (c : Content) → All P cs → find test cs ≡ Some c → P c × (test c ≡ true)
found_among P test [] c all found = cc
found_among P test (d ∷ ds) c all found = elim (cases_Bool (test d)) [
  | inl own ↦
      let first : d ≡ c = same_Some d c (rw own at found) in
      (subst P first (All-head P d ds all), ap test (sym first) ∙ own)
  | inr other ↦ found_among P test ds c (All-tail P d ds all) (rw other at found)
]

-- a resource that a look-up of an id finds has the id
found_id : (kind : Kind) (id : List ℕ) (cs : List Content) (c : Content) → All IsPart cs → find (is_at kind id) cs ≡ Some c → id ≡ c.id
found_id kind id cs c all found = (bytes_eq-Decides id c.id).0 (and_second (is_of kind c) (is_same_id id c.id) (found_among IsPart (is_at kind id) cs c all found).1)

-- a resource that a look-up of an id finds, and that the viewer sees
abbrev found_seen : (v : Viewer) (kind : Kind) (id : List ℕ) (base : List ℕ) (store : Store) → IsStore base store → (c : Content) → find (is_at kind id) store.resources ≡ Some c → sees v c ≡ true
    → SeenResource v kind store.resources
found_seen v kind id base store is c found seen =
    let cs = store.resources in
    let own = found_among IsPart (is_at kind id) cs c (parts_of base store is) found in
    let same = found_id kind id cs c (parts_of base store is) found in
    record {
      own = c;
      part = own.0;
      is_kind = same_true the_kind tt c.kind kind (and_first (is_of kind c) (is_same_id id c.id) own.1);
      seen = seen;
      found = subst (λ (i : List ℕ). find (is_at kind i) cs ≡ Some c) same found;
    }

-- ---- pages of short lists

-- a list of one or none is in any order
short_in_order : (query : Query) (ps : List Content) → length ps ≤ 1 → IsInOrder query ps ps
short_in_order query ps few = record {
  members = IsPermutation-refl ps;
  in_order = λ k d low high. absurd (omega arith);
  stable = λ z. refl;
}

pub page_of_none : (query : Query) (page : Page) → page.total ≡ 0 → page.start ≡ first_position query.start → page.items.items ≡ [] → IsShownPage [] query page
page_of_none query page total start items =
    shown_by [] query (λ (c : Content). c) [] page
    (λ p all begins has. record {
      total = all ∙ total;
      start = begins ∙ start;
      sorted = [];
      is_sorted = short_in_order query [] (omega arith);
      items = has ∙ sym (ap (take query.count) (drop-nil (query.start - 1)) ∙ take-nil query.count);
    })
    items

module _ (v : Viewer) (kind : Kind) (query : Query) (base : List ℕ) (store : Store) (is : IsStore base store) (id : List ℕ) where
  abbrev groups : List Content
  groups = of_kind Group store.resources

  abbrev view : List Content
  view = views v groups (those_at kind id store.resources)

  -- the ids are those of the resources that match, at most one, as the viewer sees them
  pub record Matched (ids : List (List ℕ)) : Type 0 where
    those : List (SeenResource v kind store.resources)
    same : ids ≡ map (λ x. x.own.id) those
    matched : matching query.filter view ≡ map (λ x. with_groups v groups x.own) those
    few : length those ≤ 1

  abbrev whole_of : SeenResource v kind store.resources → Content
  whole_of x = with_groups v groups x.own

  abbrev id_of : SeenResource v kind store.resources → List ℕ
  id_of x = x.own.id

  abbrev own_id : Content → List ℕ
  own_id c = c.id

  slice-map : (those : List (SeenResource v kind store.resources))
      → slice_of query.start query.count (map whole_of those) ≡ map whole_of (take query.count (drop (query.start - 1) those))
  slice-map those = ap (take query.count) (drop-map whole_of (query.start - 1) those) ∙ take-map whole_of query.count (drop (query.start - 1) those)

  sliced_ids : (parts : List Content) (those : List (SeenResource v kind store.resources)) → map own_id parts ≡ map id_of those
      → map own_id (slice_of query.start query.count parts) ≡ map id_of (take query.count (drop (query.start - 1) those))
  sliced_ids parts those same =
      sym (ap (take query.count) (drop-map own_id (query.start - 1) parts) ∙ take-map own_id query.count (drop (query.start - 1) parts))
      ∙ ap (λ (ids : List (List ℕ)). take query.count (drop (query.start - 1) ids)) same
      ∙ ap (take query.count) (drop-map id_of (query.start - 1) those) ∙ take-map id_of query.count (drop (query.start - 1) those)

  -- the page with the items for those that match and are on it
  pub page_of_matched : (parts : List Content) (page : Page) → Matched (map own_id parts) → page.total ≡ length parts → page.start ≡ first_position query.start
      → AreItems v query.wanted kind store.resources (slice_of query.start query.count parts) page.items.items → IsShownPage view query page
  page_of_matched parts page m total start are =
      let number : length parts ≡ length m.those = sym (length-map parts own_id) ∙ ap length m.same ∙ length-map m.those id_of in
      let all : length (matching query.filter view) ≡ length m.those = ap length m.matched ∙ length-map m.those whole_of in
      shown_by view query whole_of (take query.count (drop (query.start - 1) m.those)) page
      (λ p sum begins has. record {
        total = sum ∙ total ∙ number ∙ sym all;
        start = begins ∙ start;
        sorted = matching query.filter view;
        is_sorted = short_in_order query (matching query.filter view) (subst (λ (n : ℕ). n ≤ 1) (sym all) m.few);
        items = has ∙ sym (ap (slice_of query.start query.count) m.matched ∙ slice-map m.those);
      })
      (are (take query.count (drop (query.start - 1) m.those)) (sliced_ids parts m.those m.same))

  matched_none : matching query.filter view ≡ [] → Matched []
  matched_none empty = record { those = []; same = refl; matched = empty; few = omega arith }

  -- the resource that a look-up finds is all that matches, if it matches by the attributes that the query names
  matched_found : names_groups query ≡ false → (c : Content) → find (is_at kind id) store.resources ≡ Some c → (matches : Bool)
      → matches ≡ is_seen_match v (attributes_of query) query.filter c → Matched (if matches then id ∷ [] else [])
  matched_found none c found matches same = elim (cases_Bool (sees v c)) [
    | inr hidden ↦ (let no' : matches ≡ false = rw hidden at same in rw no' (matched_none (rw found (rw hidden refl))))
    | inl seen ↦
        let x = found_seen v kind id base store is c found seen in
        let alike = (alike_seen v query groups c x.part none).matches in
        let is_matching : matches ≡ is_match query.filter (with_groups v groups c) = (rw seen at same) ∙ alike in
        elim (cases_Bool (is_match query.filter (with_groups v groups c))) [
          | inl t ↦
              let yes' : matches ≡ true = is_matching ∙ t in
              rw yes' (record {
                those = x ∷ [];
                same = ap (λ (i : List ℕ). i ∷ []) (found_id kind id store.resources c (parts_of base store is) found);
                matched = rw found (rw seen (rw t refl));
                few = omega arith;
              })
          | inr f ↦ (let no' : matches ≡ false = is_matching ∙ f in rw no' (matched_none (rw found (rw seen (rw f refl)))))
        ]
  ]

-- ---- the visitor that was lent what a look-up found

module _ (first last : MatchVisitor) (kind : Kind) (base : List ℕ) (store : Store) (is : IsStore base store) (id : List ℕ)
    (patterns : ArePatterns (viewer_of first.viewer.now) first.patterns.now) (folds : FoldsTo TakesMatch first (those_at kind id store.resources) last) where
  abbrev viewer : Viewer
  viewer = viewer_of first.viewer.now

  taken : (c : Content) → FoldsTo TakesMatch first (c ∷ []) last → TakesMatch first c last
  taken c steps = subst (λ (w : MatchVisitor). TakesMatch first c w) steps.2 steps.1

  -- it has noted whether that resource matches
  pub took_match : first.attributes.now ≡ attributes_of first.query.now → names_groups first.query.now ≡ false → first.matches ≡ false
      → Matched viewer kind first.query.now base store is id (if last.matches then id ∷ [] else [])
  took_match named none fresh = go (find (is_at kind id) store.resources) refl folds
    where
      go : (o : Option Content) → find (is_at kind id) store.resources ≡ o → FoldsTo TakesMatch first (those_found o) last
          → Matched viewer kind first.query.now base store is id (if last.matches then id ∷ [] else [])
      go None found same =
          let no' : last.matches ≡ false = ap (λ (w : MatchVisitor). w.matches) (sym same) ∙ fresh in
          rw no' (matched_none viewer kind first.query.now base store is id (rw found refl))
      go (Some c) found steps =
          matched_found viewer kind first.query.now base store is id none c found last.matches
          (subst (λ (those : List Attribute). last.matches ≡ is_seen_match viewer those first.query.now.filter c) named (taken c steps patterns).0)

  -- and its cached patterns stay correct
  pub took_recalls : Recalls viewer kind store.resources first.cached → Recalls viewer kind store.resources last.cached
  took_recalls was = go (find (is_at kind id) store.resources) refl folds
    where
      go : (o : Option Content) → find (is_at kind id) store.resources ≡ o → FoldsTo TakesMatch first (those_found o) last → Recalls viewer kind store.resources last.cached
      go None found same = subst (λ (w : MatchVisitor). Recalls viewer kind store.resources w.cached) same was
      go (Some c) found steps =
          let at : find (is_at kind c.id) store.resources ≡ Some c
          = subst (λ (i : List ℕ). find (is_at kind i) store.resources ≡ Some c) (found_id kind id store.resources c (parts_of base store is) found) found in
          (taken c steps patterns).1 kind store.resources at was
