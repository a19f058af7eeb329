use Rattle.std.proofs.Common.{◌∙◌}
use Rattle.serde_json.specs.Written.{compact_text}
use Rattle.scim_json.specs.ListData.{list_data}
use Rattle.scim_query.proofs.Facts.{page_says}
use Rattle.scim_service.proofs.plans.list_text.Goals as goal

pub returns : goal.returns
returns c view query is =
    let says = page_says view query c.args.page.now is in
    let items = c.as_slice.ensures.value ∙ says.items in
    c.new.ensures ∙ c.in_ok-text.ensures ∙ (λ i. compact_text (list_data (says.total i) (says.start i) (items i)))
