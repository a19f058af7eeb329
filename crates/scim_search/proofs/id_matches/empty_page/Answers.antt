use Rattle.std.proofs.Common.{◌∙◌, ap}
use Rattle.scim_search.proofs.IdMatchLemmas.{page_of_none}
use Rattle.scim_search.proofs.id_matches.empty_page.Goals as goal

pub returns : goal.returns
returns c =
    let made = c.page_of_items.ensures in
    page_of_none c.args.query.now c.page_of_items.result made.total made.start (ap (λ v. v.items) made.items ∙ c.new.ensures.items)
