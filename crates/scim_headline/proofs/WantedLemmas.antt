-- Attribute lists and queries that select the same.
use Rattle.std.proofs.Common.{◌≡◌, refl, sym, ◌∙◌, ap, true≢false, Bool, true, false, List, [], ◌∷◌, map, filter, length}
use Rattle.std.specs.Prelude.{not, Option, None, Some, option_map}
use Rattle.std.specs.Ordering.{is_lt}
use Rattle.serde_json.specs.Written.{compact_text}
use Rattle.scim_schema.specs.declared.Kind.{Kind}
use Rattle.scim_schema.specs.declared.Leaf.{Leaf}
use Rattle.scim_schema.specs.declared.characteristics.Returned.{Returned}
use Rattle.scim_schema.specs.declared.characteristics.Returned.TheVariants as returned
use Rattle.scim_schema.specs.Characteristics.{characteristics_of}
use Rattle.scim_cell.specs.Content.{Content}
use Rattle.scim_cell.specs.Rows.{Row, rows, restricted, content}
use Rattle.scim_filter_grammar.specs.Tree.{Tree, tree_of}
use Rattle.scim_filter_grammar.specs.declared.tree.Filter.{Filter}
use Rattle.scim_filter.specs.Truth.{truth}
use Rattle.scim_json.specs.ListData.{list_data}
use Rattle.scim_view.specs.declared.projection.Wanted.{Wanted}
use Rattle.scim_view.specs.declared.projection.Wanted.TheVariants.{Default, Only, Without}
use Rattle.scim_view.specs.Names.{includes}
use Rattle.scim_view.specs.Shown.{shows_default, shows_requested, shows_returned, shows, shown}
use Rattle.scim_query.specs.declared.queries.Query.{Query}
use Rattle.scim_query.specs.Order.{part_cmp}
use Rattle.scim_query.specs.Pages.{is_match, matching, slice_of, first_position}
use Rattle.scim_query.specs.Arranged.{placed, before, with_placed, arranged, shown_items}
use Rattle.scim_service.specs.Step.{list_text}
use Rattle.scim_exchange.specs.AttributeLists.{Lists, is_given, Wants}
use Rattle.scim_exchange.specs.Searches.{Sought, IsQuery}

-- what is wanted selects the same leaves
abbrev pub AreWanted : Wanted → Wanted → Type 0
AreWanted w x = (kind : Kind) (l : Leaf) → shows w kind l ≡ shows x kind l

module _ (kind : Kind) (lists : Lists) where
  -- both lists can't be given and not given
  clash : {A : Type 0} (b : Bool) → b ≡ true → b ≡ false → A
  clash b given missing = absurd (true≢false (sym given ∙ missing))

  included_same : (w x : Wanted) → Wants kind lists w → Wants kind lists x → (l : Leaf)
      → (shows_default w l ≡ shows_default x l) × (shows_requested w l ≡ shows_requested x l)
  included_same Default Default h k l = (refl, refl)
  included_same Default (Only n) h k l = clash (is_given lists.attributes) k.0 h.0
  included_same Default (Without n) h k l = clash (is_given lists.excluded) k.1 h.1
  included_same (Only m) Default h k l = clash (is_given lists.attributes) h.0 k.0
  included_same (Only m) (Only n) h k l = let same : includes m l ≡ includes n l = h.2 l ∙ sym (k.2 l) in (same, same)
  included_same (Only m) (Without n) h k l = clash (is_given lists.attributes) h.0 k.0
  included_same (Without m) Default h k l = clash (is_given lists.excluded) h.1 k.1
  included_same (Without m) (Only n) h k l = clash (is_given lists.attributes) k.0 h.0
  included_same (Without m) (Without n) h k l = let same : includes m l ≡ includes n l = h.2 l ∙ sym (k.2 l) in (ap not same, refl)

  returned_same : (w x : Wanted) → Wants kind lists w → Wants kind lists x → (r : Returned) (l : Leaf) → shows_returned w r l ≡ shows_returned x r l
  returned_same w x h k returned.Always l = refl
  returned_same w x h k returned.Never l = refl
  returned_same w x h k returned.Default l = (included_same w x h k l).0
  returned_same w x h k returned.Request l = (included_same w x h k l).1

  pub wanted_same : (w x : Wanted) → Wants kind lists w → Wants kind lists x → AreWanted w x
  wanted_same w x h k any l = returned_same w x h k (characteristics_of any l).returned l

-- the same cells are shown
pub shown_same : (w x : Wanted) → AreWanted w x → (c : Content) → shown w c ≡ shown x c
unfolding shown
shown_same w x same c = λ i. content c.kind c.id (restricted (λ (r : Row) (l : Leaf). same c.kind l i) (rows c))

-- ---- queries

-- the queries find, sort and show the same
pub record AreQueries (q r : Query) : Type 0 where
  pub filter : option_map tree_of q.filter ≡ option_map tree_of r.filter
  pub sort_by : q.sort_by ≡ r.sort_by
  pub descending : q.descending ≡ r.descending
  pub start : q.start ≡ r.start
  pub count : q.count ≡ r.count
  pub wanted : AreWanted q.wanted r.wanted

pub queries_same : (kind : Kind) (s : Sought) (q r : Query) → IsQuery kind s q → IsQuery kind s r → AreQueries q r
queries_same kind s q r one two = record {
  filter = one.filter ∙ sym two.filter;
  sort_by = one.sort_by ∙ sym two.sort_by;
  descending = one.descending ∙ sym two.descending;
  start = one.start ∙ sym two.start;
  count = one.count ∙ sym two.count;
  wanted = wanted_same kind s.settings.lists q.wanted r.wanted one.wanted two.wanted;
}

-- whether a part matches a tree, if there is one
abbrev matches : Option Tree → Content → Bool
matches None p = true
matches (Some t) p = truth t (rows p)

match_is : (f : Option Filter) (p : Content) → is_match f p ≡ matches (option_map tree_of f) p
match_is None p = refl
match_is (Some f) p = refl

module _ (q r : Query) (same : AreQueries q r) where
  match_same : (p : Content) → is_match q.filter p ≡ is_match r.filter p
  match_same p = match_is q.filter p ∙ ap (λ (f : Option Tree). matches f p) same.filter ∙ sym (match_is r.filter p)

  matching_same : (ps : List Content) → matching q.filter ps ≡ matching r.filter ps
  matching_same ps = λ i. filter (λ (p : Content). match_same p i) ps

  before_same : before q ≡ before r
  before_same = λ i p s. is_lt (part_cmp (same.sort_by i) (same.descending i) p s)

  placed_same : (done ps : List Content) → with_placed q done ps ≡ with_placed r done ps
  placed_same done [] = refl
  placed_same done (p ∷ ps) =
      ap (λ (lt : Content → Content → Bool). with_placed q (placed lt p done) ps) before_same ∙ placed_same (placed (before r) p done) ps

  arranged_same : (ps : List Content) → arranged q ps ≡ arranged r ps
  arranged_same ps = ap (with_placed q []) (matching_same ps) ∙ placed_same [] (matching r.filter ps)

  items_same : (ps : List Content) → shown_items q ps ≡ shown_items r ps
  unfolding shown_items
  items_same ps = λ i. map (λ (c : Content). shown_same q.wanted r.wanted same.wanted c i) (slice_of (same.start i) (same.count i) (arranged_same ps i))

  pub list_same : (ps : List Content) → list_text q ps ≡ list_text r ps
  list_same ps = λ i. compact_text (list_data (length (matching_same ps i)) (first_position (same.start i)) (items_same ps i))
