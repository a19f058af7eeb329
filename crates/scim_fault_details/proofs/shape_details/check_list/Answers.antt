use Rattle.std.proofs.Common.{◌∙◌, sym, ap, Option, rules}
use Rattle.std.specs.Prelude.{option_and_then}
use Rattle.json.specs.Json.{Json}
use Rattle.json.specs.Value.{value_view}
use Rattle.scim_policy_file.specs.File.{items_in}
use Rattle.scim_fault_details.proofs.ShapeLemmas.{items_there}
use Rattle.scim_fault_details.proofs.shape_details.check_list.Goals as goal

pub returns-clause-items : goal.returns-clause-items
returns-clause-items c =
    let there = items_there (value_view c.in_ok-found.found.now) c.in-Some.items.now (sym c.in-Some.ensures) (search rules) in
    ap (λ (o : Option Json). option_and_then items_in o) c.in_ok-found.ensures.found ∙ there
