-- What a reply shows of a resource, and of a page.
use Rattle.std.proofs.Common.{◌≡◌, refl, sym, ◌∙◌, ap, subst, Bool, true, List, [], ◌∷◌, filter, drop, slice_index_or, inl, inr}
use Rattle.std.specs.Prelude.{All, Contains, ◌-◌}
use Rattle.std.proofs.lemmas.Bool.{cases_Bool}
use Rattle.std.proofs.lemmas.List.Elements.{All-nil, All-cons, All-head, All-tail, All-filter, All-take, All-drop, All-map, All-contains_itself}
use Rattle.serde_json.specs.Written.{compact_text}
use Rattle.scim_schema.specs.declared.Kind.{Kind}
use Rattle.scim_schema.specs.declared.Kind.TheVariants.{Group}
use Rattle.scim_cell.specs.Content.{Content, IsPart}
use Rattle.scim_cell.specs.Kinds.{is_of, of_kind}
use Rattle.scim_cell.specs.Order.{id_cmp}
use Rattle.scim_cell.specs.Rows.{Row, Test, by_leaf, content, restricted, AreSound}
use Rattle.scim_cell.proofs.Facts.{restricted_further}
use Rattle.scim_value.specs.Members.{lists}
use Rattle.scim_value.proofs.Facts.{part_content, rows_content}
use Rattle.scim_json.specs.ListData.{list_data}
use Rattle.scim_json.proofs.PartCells.{parts_are_shown_whole}
use Rattle.scim_view.specs.declared.projection.Wanted.{Wanted}
use Rattle.scim_view.specs.View.{Viewer, read_in, may_be_seen, sees}
use Rattle.scim_view.specs.Groups.{memberships, rows_with, seen, visible_with, with_groups, views}
use Rattle.scim_view.specs.Shown.{shows, shown}
use Rattle.scim_view.specs.Sorted.{sorted_by}
use Rattle.scim_view.proofs.AttributeLemmas.{sound_among}
use Rattle.scim_view.proofs.GroupLemmas.{made_rows}
use Rattle.scim_query.specs.declared.queries.Query.{Query}
use Rattle.scim_query.specs.Pages.{matching, is_match, slice_of, first_position}
use Rattle.scim_query.specs.Arranged.{placed, before, with_placed, arranged, total_of, shown_items}
use Rattle.scim_headline.specs.Headline.{is_shown, IsShown, ShowsPage}

-- all of these resources are parts
abbrev pub AreParts : List Content → Type 0
AreParts cs = All IsPart cs

-- ---- of one resource

module _ (v : Viewer) (groups : List Content) (wanted : Wanted) (c : Content) where
  -- the values of `groups` for the groups that list the resource and that the client sees
  abbrev own_groups : List Row
  own_groups = memberships v.base (seen v groups) c.id

  -- the rows that are shown
  abbrev shown_rows : List Row
  shown_rows = restricted (is_shown v wanted c) (rows_with own_groups c)

  -- what a test leaves of its rows, with these values, is sound
  sound_rows : (test : Test) → IsPart c → AreSound c.kind (restricted test (rows_with own_groups c))
  sound_rows test part = sound_among test own_groups c part (made_rows v.base (sorted_by id_cmp (filter (lists c.id) (seen v groups))))

  -- what the projection leaves of what the client sees has these rows
  shown_content : IsPart c → shown wanted (with_groups v groups c) ≡ content c.kind c.id shown_rows
  unfolding shown with_groups visible_with
  shown_content part =
      let may = may_be_seen (read_in v c) c.kind in
      ap (λ (rs : List Row). content c.kind c.id (restricted (by_leaf (shows wanted c.kind)) rs)) (rows_content c.kind c.id _ (sound_rows may part))
      ∙ ap (content c.kind c.id) (restricted_further may (shows wanted c.kind) (rows_with own_groups c))

  -- so it is what a reply shows of the resource
  pub shows_part : IsPart c → sees v c ≡ true → IsShown v groups wanted c (shown wanted (with_groups v groups c))
  shows_part part sees' =
      let sound = sound_rows (is_shown v wanted c) part in
      subst (IsShown v groups wanted c) (sym (shown_content part)) (record {
        is_seen = sees';
        kind = refl;
        id = refl;
        cells = rows_content c.kind c.id shown_rows sound;
        json = parts_are_shown_whole (content c.kind c.id shown_rows) (part_content c.kind c.id shown_rows sound);
      })

-- ---- of a page

-- what holds of each that the client sees, with its groups, holds of its view
views_all : (P : Content → Type 0) (v : Viewer) (groups cs : List Content) → All (λ c. sees v c ≡ true → P (with_groups v groups c)) cs → All P (views v groups cs)
views_all P v groups [] all = All-nil P
views_all P v groups (c ∷ cs) all =
    let Q : Content → Type 0 = λ d. sees v d ≡ true → P (with_groups v groups d) in
    let rest = views_all P v groups cs (All-tail Q c cs all) in
    elim (cases_Bool (sees v c)) [
      | inl t ↦ rw t (All-cons P (with_groups v groups c) (views v groups cs) (All-head Q c cs all t) rest)
      | inr f ↦ rw f rest
    ]

-- what holds of all parts of a list holds of them in the query's order
placed_all : (P : Content → Type 0) (lt : Content → Content → Bool) (p : Content) (ps : List Content) → P p → All P ps → All P (placed lt p ps)
placed_all P lt p [] own all = All-cons P p [] own (All-nil P)
placed_all P lt p (q ∷ qs) own all = elim (cases_Bool (lt p q)) [
  | inl t ↦ rw t (All-cons P p (q ∷ qs) own all)
  | inr f ↦ rw f (All-cons P q (placed lt p qs) (All-head P q qs all) (placed_all P lt p qs own (All-tail P q qs all)))
]

with_placed_all : (P : Content → Type 0) (query : Query) (done ps : List Content) → All P done → All P ps → All P (with_placed query done ps)
with_placed_all P query done [] all more = all
with_placed_all P query done (p ∷ ps) all more =
    with_placed_all P query (placed (before query) p done) ps (placed_all P (before query) p done (All-head P p ps more) all) (All-tail P p ps more)

-- what holds of each part of a view, once projected, holds of all that the page shows
page_all : (P : Content → Type 0) (query : Query) (view : List Content) → All (λ p. P (shown query.wanted p)) view → All P (shown_items query view)
unfolding shown_items
page_all P query view all =
    let Q : Content → Type 0 = λ p. P (shown query.wanted p) in
    let found : All Q (matching query.filter view) = All-filter (is_match query.filter) Q view all in
    let sorted : All Q (arranged query view) = with_placed_all Q query [] (matching query.filter view) (All-nil Q) found in
    All-map P (shown query.wanted) (slice_of query.start query.count (arranged query view))
    (All-take Q query.count (drop (query.start - 1) (arranged query view)) (All-drop Q (query.start - 1) (arranged query view) sorted))

-- the text of a search is the query's page of the client's view
pub shows_page : (v : Viewer) (cs : List Content) (kind : Kind) (query : Query) → AreParts cs
    → ShowsPage v cs kind query (compact_text (list_data (total_of query (views v (of_kind Group cs) (of_kind kind cs))) (first_position query.start) (shown_items query (views v (of_kind Group cs) (of_kind kind cs)))))
shows_page v cs kind query parts =
    let groups = of_kind Group cs in
    let view = views v groups (of_kind kind cs) in
    let P : Content → Type 0 = λ part. (c : Content) × Contains cs c × IsShown v groups query.wanted c part in
    let own : All (λ c. sees v c ≡ true → P (shown query.wanted (with_groups v groups c))) cs = λ k d l t.
    let it = slice_index_or cs k d in (it, All-contains_itself cs k d l, shows_part v groups query.wanted it (parts k d l) t) in
    record {
      view = view;
      view_is = refl;
      each = page_all P query view (views_all (λ p. P (shown query.wanted p)) v groups (of_kind kind cs)
          (All-filter (is_of kind) (λ c. sees v c ≡ true → P (shown query.wanted (with_groups v groups c))) cs own));
      text_is = refl;
    }
