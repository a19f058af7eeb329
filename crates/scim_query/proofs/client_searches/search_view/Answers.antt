use Rattle.std.proofs.Common.{◌≡◌, subst, List, map}
use Rattle.std.specs.Prelude.{Result, Ok, Err, IfOk}
use Rattle.scim_text.specs.declared.memory.NoMemory.{NoMemory}
use Rattle.scim_cell.specs.Content.{Content}
use Rattle.scim_view.specs.Shown.{shown}
use Rattle.scim_query.specs.declared.queries.Query.{Query}
use Rattle.scim_query.specs.declared.queries.Page.{Page}
use Rattle.scim_query.specs.Pages.{IsPage}
use Rattle.scim_query.specs.ClientSearches.{IsShownPage}
use Rattle.scim_query.proofs.client_searches.search_view.Goals as goal

-- a page whose items are shown as they are wanted
page_shown : (view : List Content) (query : Query) (found : Page) (r : Result Page NoMemory) → IsPage view query found
    → IfOk r (λ page. page.total ≡ found.total) → IfOk r (λ page. page.start ≡ found.start)
    → IfOk r (λ page. page.items.items ≡ map (shown query.wanted) found.items.items) → IfOk r (IsShownPage view query)
page_shown view query found (Ok page) is_page total start items = record { found = found; is_page = is_page; total = total; start = start; items = items }
page_shown view query found (Err e) is_page total start items = total

pub returns : goal.returns
returns c =
    let is_page : IsPage c.in_ok-view.view.items c.args.query.now c.in_ok-found.found = rw c.as_slice.ensures.value at c.in_ok-found.ensures in
    page_shown _ c.args.query.now c.in_ok-found.found c.shown_page.result (subst (λ view. IsPage view c.args.query.now c.in_ok-found.found) c.in_ok-view.ensures is_page)
    c.shown_page.ensures.total c.shown_page.ensures.start c.shown_page.ensures.items
