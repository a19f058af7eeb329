-- Parts that are put in order one by one are in the order that is asked for.
use Rattle.std.proofs.Common.{rules, ◌≡◌, sym, ◌∙◌, ap, subst, List, [], ◌∷◌, ◌++◌, append_assoc, map}
use Rattle.std.proofs.lemmas.List.{append-nil}
use Rattle.std.proofs.lemmas.List.Sorted.{IsPermutation-refl}
use Rattle.scim_cell.specs.Content.{Content}
use Rattle.scim_view.specs.Shown.{shown}
use Rattle.scim_query.specs.declared.queries.Query.{Query}
use Rattle.scim_query.specs.declared.queries.Page.{Page}
use Rattle.scim_query.specs.Pages.{matching, slice_of, first_position, IsInOrder, IsPage}
use Rattle.scim_query.specs.ClientSearches.{IsShownPage}
use Rattle.scim_query.specs.Arranged.{placed, before, with_placed, arranged, total_of, shown_items, PagesAreArranged}
use Rattle.scim_query.proofs.OneOrderLemmas.{one_list_in_order}
use Rattle.scim_query.proofs.PagerLemmas.{in_order_more}

none_in_order : (query : Query) → IsInOrder query [] []
none_in_order query = record { members = IsPermutation-refl []; in_order = search rules; stable = search rules }

more_in_order : (query : Query) (found done ps : List Content) → IsInOrder query found done → IsInOrder query (found ++ ps) (with_placed query done ps)
more_in_order query found done [] is = subst (λ (xs : List Content). IsInOrder query xs done) (sym (append-nil found)) is
more_in_order query found done (p ∷ ps) is =
    subst (λ (xs : List Content). IsInOrder query xs (with_placed query (placed (before query) p done) ps)) (append_assoc found (p ∷ []) ps)
    (more_in_order query (found ++ p ∷ []) (placed (before query) p done) ps (in_order_more query found done p is))

pub arranged_in_order : (query : Query) (parts : List Content) → IsInOrder query (matching query.filter parts) (arranged query parts)
arranged_in_order query parts = more_in_order query [] [] (matching query.filter parts) (none_in_order query)

-- the items of a page
pub page_items : (parts : List Content) (query : Query) (page : Page) → IsPage parts query page → page.items.items ≡ slice_of query.start query.count (arranged query parts)
page_items parts query page is =
    is.items ∙ ap (slice_of query.start query.count)
    (one_list_in_order query (matching query.filter parts) is.sorted (arranged query parts) is.is_sorted (arranged_in_order query parts))

pub page_arranged : PagesAreArranged
page_arranged view query page = (
  λ is. record { total = is.total; start = is.start; items = page_items view query page is },
  λ is. record { total = is.total; start = is.start; sorted = arranged query view; is_sorted = arranged_in_order query view; items = is.items },
)

-- what a page of a client's view says, by the view
pub record Says (view : List Content) (query : Query) (page : Page) : Type 0 where
  pub total : page.total ≡ total_of query view
  pub start : page.start ≡ first_position query.start
  pub items : page.items.items ≡ shown_items query view

pub page_says : (view : List Content) (query : Query) (page : Page) → IsShownPage view query page → Says view query page
unfolding shown_items
page_says view query page is = record {
  total = is.total ∙ is.is_page.total;
  start = is.start ∙ is.is_page.start;
  items = is.items ∙ ap (map (shown query.wanted)) (page_items view query is.found is.is_page);
}
