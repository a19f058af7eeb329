-- What becomes of a visitor that is shown a list.
use Rattle.std.proofs.Common.{◌≡◌, ℕ, true, false, true≢false, List, [], ◌∷◌, ◌++◌, refl, sym, ap, ◌∙◌, append_assoc, subst, inl, inr}
use Rattle.std.specs.Prelude.{All, Option, Result, Ok, Err, OnOk, Some, find}
use Rattle.std.specs.List.{FoldsTo}
use Rattle.std.proofs.lemmas.Bool.{cases_Bool}
use Rattle.std.proofs.lemmas.List.{append-nil}
use Rattle.std.proofs.lemmas.List.Elements.{All-head, All-tail}
use denote.Ref.{Bor}
use Rattle.scim_schema.specs.declared.Kind.{Kind}
use Rattle.scim_schema.specs.declared.Kind.TheVariants.{Group}
use Rattle.scim_cell.specs.Content.{Content}
use Rattle.scim_cell.specs.Rows.{rows}
use Rattle.scim_filter_grammar.specs.declared.tree.Filter.{Filter}
use Rattle.scim_view.specs.declared.viewers.Viewer.{Viewer as ViewerInCode}
use Rattle.scim_value.specs.Members.{lists}
use Rattle.scim_view.specs.View.{Viewer, viewer_of, sees}
use Rattle.scim_view.specs.Groups.{and_those, has_groups}
use Rattle.scim_view.specs.Indexes.{IsIndexOf}
use Rattle.scim_view.specs.Listings.{AreListing}
use Rattle.scim_view.proofs.Facts.{and_those_append}
use Rattle.scim_query.specs.declared.pagers.Pager.{Pager}
use Rattle.scim_query.specs.declared.queries.Query.{Query}
use Rattle.scim_query.specs.Needed.{NeedsGroups}
use Rattle.scim_query.specs.Pages.{is_match}
use Rattle.scim_query.specs.Pagers.{HasTaken}
use Rattle.scim_query.proofs.Facts.{taken_unmatched}
use Rattle.scim_shelf.specs.Stores.{is_at}
use Rattle.scim_search.specs.declared.view_builders.ViewBuilder.{ViewBuilder}
use Rattle.scim_search.specs.declared.visitors.GroupVisitor.{GroupVisitor}
use Rattle.scim_search.specs.declared.visitors.ListingVisitor.{ListingVisitor}
use Rattle.scim_search.specs.declared.visitors.SearchVisitor.{SearchVisitor}
use Rattle.scim_search.specs.PatternCache.{Recalls}
use Rattle.scim_search.specs.ReadPatterns.{ArePatterns}
use Rattle.scim_search.specs.ViewBuilders.{made, made_of_all, made_part, part_of, IsViewBuilder}
use Rattle.scim_search.specs.Visits.{SkipsOnlyUnmatched, TakesGroup, TakesListing, TakesResource, Tells}

-- what holds at Ok by what does
pub ok_by : {T E : Type 0} (r : Result T E) (P Q : Type 0) → (P → Q) → OnOk r P → OnOk r Q
ok_by (Ok t) P Q make p = make p
ok_by (Err e) P Q make p = tt

-- whether a group joins the index that a visitor has, or a list of them
abbrev Joins : GroupVisitor → List Content → GroupVisitor → Type 0
Joins v cs w = (groups : List Content) → ArePatterns (viewer_of v.viewer.now) v.patterns → IsIndexOf (viewer_of v.viewer.now) groups v.index
    → IsIndexOf (viewer_of v.viewer.now) (groups ++ cs) w.index

-- what joins by the next visitor joins by one with the same viewer and patterns
joins_as : (v j w : GroupVisitor) (cs : List Content) → j.viewer ≡ v.viewer → j.patterns ≡ v.patterns → Joins j cs w
    → (groups : List Content) → ArePatterns (viewer_of v.viewer.now) v.patterns → IsIndexOf (viewer_of v.viewer.now) groups j.index
    → IsIndexOf (viewer_of v.viewer.now) (groups ++ cs) w.index
joins_as v j w cs viewer patterns joins groups are is =
    let are' : ArePatterns (viewer_of j.viewer.now) j.patterns
    = subst (λ (u : Bor ViewerInCode). ArePatterns (viewer_of u.now) j.patterns) (sym viewer) (subst (ArePatterns (viewer_of v.viewer.now)) (sym patterns) are) in
    let is' : IsIndexOf (viewer_of j.viewer.now) groups j.index = subst (λ (u : Bor ViewerInCode). IsIndexOf (viewer_of u.now) groups j.index) (sym viewer) is in
    subst (λ (u : Bor ViewerInCode). IsIndexOf (viewer_of u.now) (groups ++ cs) w.index) viewer (joins groups are' is')

pub took_groups : (v : GroupVisitor) (cs : List Content) (w : GroupVisitor) → FoldsTo TakesGroup v cs w → Joins v cs w
took_groups v [] w same = rw (← same) (λ groups are is. rw (append-nil groups) is)
took_groups v (c ∷ cs) w steps =
    let j = steps.0 in
    let one = steps.1 in
    let rest = took_groups j cs w steps.2 in
    λ groups are is.
    subst (λ (gs : List Content). IsIndexOf (viewer_of v.viewer.now) gs w.index) (append_assoc groups (c ∷ []) cs)
    (joins_as v j w cs one.viewer one.patterns rest (groups ++ c ∷ []) are (one.index groups are is))

-- what a visitor has been shown that lists a resource has been gathered
pub took_listing : (v : Viewer) (cs : List Content) (id : List ℕ) (first : ListingVisitor) (ds : List Content) (last : ListingVisitor)
    → All (λ d. find (is_at Group d.id) cs ≡ Some d) ds → All (λ d. lists id d ≡ true) ds → FoldsTo TakesListing first ds last → Tells v cs first
    → (gathered : List Content) → AreListing v id gathered first.groups → Tells v cs last × AreListing v id (gathered ++ ds) last.groups
took_listing v cs id first [] last founds all folds tells gathered is =
    (subst (Tells v cs) folds tells, rw (append-nil gathered) (subst (λ (x : ListingVisitor). AreListing v id gathered x.groups) folds is))
took_listing v cs id first (d ∷ ds) last founds all folds tells gathered is =
    let Found : Content → Type 0 = λ e. find (is_at Group e.id) cs ≡ Some e in
    let Lists : Content → Type 0 = λ e. lists id e ≡ true in
    let one = folds.1 v cs (All-head Found d ds founds) tells in
    let rest = took_listing v cs id folds.0 ds last (All-tail Found d ds founds) (All-tail Lists d ds all) folds.2 one.0 (gathered ++ d ∷ []) (one.1 id gathered (All-head Lists d ds all) is) in
    (rest.0, subst (λ (gs : List Content). AreListing v id gs last.groups) (append_assoc gathered (d ∷ []) ds) rest.1)

-- ---- resources that are skipped

-- a part without a value of `groups` fails a filter that needs one
fails_without : (filter : Option Filter) (p : Content) → NeedsGroups filter → has_groups (rows p) ≡ false → is_match filter p ≡ false
fails_without filter p needs none = elim (cases_Bool (is_match filter p)) [
  | inl t ↦ absurd (true≢false (sym (needs p t) ∙ none))
  | inr n ↦ n
]

-- a resource that is made without groups doesn't match a filter that needs them: the page stays as it is, taken or not
pub taken_skipped : (pager : Pager) (make : Content → Content) (v : Viewer) (parts : List Content) (c : Content) → NeedsGroups pager.query.now.filter → has_groups (rows (make c)) ≡ false
    → HasTaken parts pager → HasTaken (parts ++ and_those (made_part make v c) []) pager
taken_skipped pager make v parts c needs none was = elim (cases_Bool (sees v c)) [
  | inl t ↦ rw t (taken_unmatched pager parts (make c) (fails_without pager.query.now.filter (make c) needs none) was)
  | inr n ↦ rw (n, append-nil parts) was
]

-- what is made of what a visitor has been shown has been handed to its pager
abbrev made_by : List Content → ViewBuilder → List Content → List Content
made_by groups builder cs = made_of_all (made (viewer_of builder.viewer.now) groups builder.scope) (viewer_of builder.viewer.now) cs

pub record TookResources (v : SearchVisitor) (ds : List Content) (w : SearchVisitor) : Type 0 where
  pub query : w.pager.query ≡ v.pager.query
  pub taken : (groups parts : List Content) → IsViewBuilder groups v.builder → SkipsOnlyUnmatched v → HasTaken parts v.pager
      → HasTaken (parts ++ made_by groups v.builder ds) w.pager
  pub cached : (groups cs : List Content) (kind : Kind) → IsViewBuilder groups v.builder → All (λ d. find (is_at kind d.id) cs ≡ Some d) ds
      → Recalls (viewer_of v.builder.viewer.now) kind cs v.cached → Recalls (viewer_of v.builder.viewer.now) kind cs w.cached

-- after a resource the visitor still skips no resource that matches
skips_on : (v : SearchVisitor) (d : Content) (j : SearchVisitor) → TakesResource v d j → SkipsOnlyUnmatched v → SkipsOnlyUnmatched j
skips_on v d j one skips needs = subst (λ (q : Bor Query). NeedsGroups q.now.filter) (sym one.query) (skips (sym one.needs ∙ needs))

pub took_resources : (v : SearchVisitor) (ds : List Content) (w : SearchVisitor) → FoldsTo TakesResource v ds w → TookResources v ds w
took_resources v [] w same = rw (← same) (record { query = refl; taken = λ groups parts is skips was. rw (append-nil parts) was; cached = λ groups cs kind is founds was. was })
took_resources v (d ∷ ds) w steps =
    let j = steps.0 in
    let one = steps.1 in
    let rest = took_resources j ds w steps.2 in
    record {
      query = rest.query ∙ one.query;
      taken = λ groups parts is skips was.
          let first = and_those (part_of groups v.builder d) [] in
          let all : (parts ++ first) ++ made_by groups v.builder ds ≡ parts ++ made_by groups v.builder (d ∷ ds)
          = append_assoc parts first (made_by groups v.builder ds)
          ∙ ap (λ (t : List Content). parts ++ t) (sym (and_those_append (part_of groups v.builder d) [] (made_by groups v.builder ds))) in
          let more : HasTaken ((parts ++ first) ++ made_by groups j.builder ds) w.pager
          = rest.taken groups (parts ++ first) (subst (IsViewBuilder groups) (sym one.builder) is) (skips_on v d j one skips) (one.taken groups parts is skips was) in
          subst (λ (t : List Content). HasTaken t w.pager) all (subst (λ (s : ViewBuilder). HasTaken ((parts ++ first) ++ made_by groups s ds) w.pager) one.builder more);
      cached = λ groups cs kind is founds was.
          let Found : Content → Type 0 = λ e. find (is_at kind e.id) cs ≡ Some e in
          let kept = one.cached groups cs kind is (All-head Found d ds founds) was in
          subst (λ (s : ViewBuilder). Recalls (viewer_of s.viewer.now) kind cs w.cached) one.builder
          (rest.cached groups cs kind (subst (IsViewBuilder groups) (sym one.builder) is) (All-tail Found d ds founds)
          (subst (λ (s : ViewBuilder). Recalls (viewer_of s.viewer.now) kind cs j.cached) (sym one.builder) kept));
    }
