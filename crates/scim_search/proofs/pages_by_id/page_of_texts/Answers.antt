use Rattle.scim_search.proofs.pages_by_id.page_of_texts.Goals as goal

pub returns-clause-page : goal.returns-clause-page
returns-clause-page g c store stands honest base is =
    record {
      found = c.in_ok-whole.whole;
      is_page = c.in_ok-whole.ensures.page store stands honest base is;
      total = c.in_ok-shown_page.ensures.total;
      start = c.in_ok-shown_page.ensures.start;
      items = c.in_ok-shown_page.ensures.items;
    }
