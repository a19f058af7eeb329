use Rattle.scim_command.proofs.LineLemmas.{joined_told, left_told}
use Rattle.scim_command.proofs.event_lines.told_event_in.Goals as goal

pub returns-in-joined : goal.returns-in-joined
returns-in-joined c = joined_told c.args.name.now c.args.text.now c.told_event.result c.in-joined.is c.told_event.ensures

pub returns-in-left : goal.returns-in-left
returns-in-left c = left_told c.args.name.now c.args.text.now c.told_event-in-left.result c.in-left.is c.told_event-in-left.ensures
