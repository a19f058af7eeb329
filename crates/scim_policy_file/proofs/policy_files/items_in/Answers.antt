use Rattle.std.proofs.Common.{◌≡◌, Some, rules}
use Rattle.json.specs.Find.{as_array}
use Rattle.json.specs.Value.{value_view, items_view}
use Rattle.scim_policy_file.proofs.ShapeLemmas.{items_there}
use Rattle.scim_policy_file.proofs.policy_files.items_in.Goals as goal

pub returns : goal.returns
returns c =
    let items = c.in_ok-items.items.now in
    let array : as_array (value_view c.args.value.now) ≡ Some (items_view items) = search rules in
    let there = items_there (value_view c.args.value.now) items array (search rules) in
    search (rules, there)
