use Rattle.std.proofs.Common.{rules}
use Rattle.scim_text.proofs.moment_readings.clock.Goals as goal

pub returns-clause-found : goal.returns-clause-found
returns-clause-found c = (
  record { hour = c.in_ok-hour.hour; minute = c.in_ok-minute.minute; second = c.in_ok-second.second },
  search rules,
  search rules,
  search rules,
)
