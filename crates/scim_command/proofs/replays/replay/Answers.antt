use Rattle.std.proofs.Common.{rules}
use Rattle.scim_command.proofs.replays.replay.Goals as goal

pub returns-in_err-text-clause-users : goal.returns-in_err-text-clause-users
returns-in_err-text-clause-users g c n is = c.in_err-text.ensures.users n (search rules)

pub returns-in_err-text-clause-events : goal.returns-in_err-text-clause-events
returns-in_err-text-clause-events g c n is = c.in_err-text.ensures.events n (search rules)
