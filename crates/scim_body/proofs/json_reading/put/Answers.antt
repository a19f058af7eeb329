use Rattle.std.proofs.Common.{ap, ◌∙◌}
use Rattle.scim_body.specs.View.{members_view}
use Rattle.scim_body.proofs.Views.{members_view-insert_entry}
use Rattle.scim_body.proofs.json_reading.put.Goals as goal

pub returns : goal.returns
returns c = ap members_view c.in_ok-insert.ensures.entries ∙ members_view-insert_entry c.args.members.now.entries c.args.key c.args.value
