-- The page that a search returns for a client's view of resources (RFC 7644 section 3.4.2).
use Rattle.std.specs.Prelude.{◌≡◌, List, map}
use Rattle.scim_cell.specs.Content.{Content}
use Rattle.scim_view.specs.Shown.{shown}
use Rattle.scim_query.specs.declared.queries.Query.{Query}
use Rattle.scim_query.specs.declared.queries.Page.{Page}
use Rattle.scim_query.specs.Pages.{IsPage}

-- the page is the query's page of a client's view, with each item projected to what the query wants
pub record IsShownPage (view : List Content) (query : Query) (page : Page) : Type 0 where
  pub found : Page
  pub is_page : IsPage view query found
  pub total : page.total ≡ found.total
  pub start : page.start ≡ found.start
  pub items : page.items.items ≡ map (shown query.wanted) found.items.items
