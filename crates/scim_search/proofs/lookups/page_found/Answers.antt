use Rattle.std.proofs.Common.{subst, List}
use Rattle.scim_cell.specs.Content.{Content}
use Rattle.scim_query.specs.Pages.{IsPage}
use Rattle.scim_search.proofs.lookups.page_found.Goals as goal

pub returns-clause-page : goal.returns-clause-page
returns-clause-page g c store stands honest base is =
    record {
      found = c.in_ok-whole.whole;
      is_page = subst (λ (xs : List Content). IsPage xs c.args.query.now c.in_ok-whole.whole) (c.in_ok-part.ensures.part store stands honest base is) c.in_ok-whole.ensures;
      total = c.in_ok-shown_page.ensures.total;
      start = c.in_ok-shown_page.ensures.start;
      items = c.in_ok-shown_page.ensures.items;
    }
