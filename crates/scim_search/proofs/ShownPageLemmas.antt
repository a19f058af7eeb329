-- Pages whose items are projected to what the query wants.
use Rattle.std.proofs.Common.{◌≡◌, refl, sym, ◌∙◌, ap, List, map, length}
use Rattle.std.proofs.lemmas.List.{length-map}
use Rattle.std.proofs.lemmas.Simd.{map-map}
use Rattle.scim_cell.specs.Content.{Content}
use Rattle.scim_view.specs.Shown.{shown}
use Rattle.scim_query.specs.ClientSearches.{IsShownPage}
use Rattle.scim_query.specs.declared.queries.Page.{Page}
use Rattle.scim_query.specs.declared.queries.Query.{Query}
use Rattle.scim_query.specs.Pages.{IsPage}

-- a page with the total and the start of another, and as many other items
record OtherItems (page : Page) (items : List Content) : Type 0 where
  other : Page
  total : other.total ≡ page.total
  start : other.start ≡ page.start
  has : other.items.items ≡ items

other_items : (page : Page) (items : List Content) → length items ≡ length page.items.items → OtherItems page items
other_items page items number =
    let v = page.items in
    let other : Page = record {
      total = page.total;
      start = page.start;
      items = record { ptr = v.ptr; len = v.len; cap = v.cap; alloc = v.alloc; items = items; ok = (v.ok.0 ∙ sym number, v.ok.1); small = v.small };
    } in
    record { other = other; total = refl; start = refl; has = refl }

-- a page that has the projected item for each element of a list is a shown page, if it is a page of the view with whole
-- items instead
pub shown_by : (view : List Content) (query : Query) {X : Type 0} (whole : X → Content) (xs : List X) (page : Page)
    → ((p : Page) → p.total ≡ page.total → p.start ≡ page.start → p.items.items ≡ map whole xs → IsPage view query p)
    → page.items.items ≡ map (λ x. shown query.wanted (whole x)) xs → IsShownPage view query page
shown_by view query whole xs page is items =
    let w = other_items page (map whole xs) (length-map xs whole ∙ sym (ap length items ∙ length-map xs (λ x. shown query.wanted (whole x)))) in
    record {
      found = w.other;
      is_page = is w.other w.total w.start w.has;
      total = sym w.total;
      start = sym w.start;
      items = items ∙ sym (ap (map (shown query.wanted)) w.has ∙ map-map (shown query.wanted) whole xs);
    }

-- if the pages of one list are pages of another, so are the shown pages
pub shown_as : (xs ys : List Content) (query : Query) (page : Page) → ((p : Page) → IsPage xs query p → IsPage ys query p) → IsShownPage xs query page
    → IsShownPage ys query page
shown_as xs ys query page same is = record { found = is.found; is_page = same is.found is.is_page; total = is.total; start = is.start; items = is.items }
