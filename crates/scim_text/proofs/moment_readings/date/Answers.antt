use Rattle.std.proofs.Common.{◌≤◌, rules}
use Rattle.scim_text.proofs.Calendar.{day_bound}
use Rattle.scim_text.proofs.moment_readings.date.Goals as goal

pub returns-in_err-day-clause-complete : goal.returns-in_err-day-clause-complete
returns-in_err-day-clause-complete c d rest h e = let bound : d.day ≤ 31 = day_bound d h in search rules
