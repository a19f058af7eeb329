use Rattle.std.proofs.Common.{arith}
use Rattle.jiff_core.proofs.SignedLemmas.{signed_arith}
use Rattle.scim_text.specs.Spelling.{ahead, behind}
use Rattle.scim_text.proofs.moment_readings.zone.Goals as goal

pub returns-in-Some-clause-found : goal.returns-in-Some-clause-found
returns-in-Some-clause-found c =
    let o = c.in_ok-ahead.ensures.found in
    (ahead o.0 o.1, o.2, omega (arith, signed_arith, o.3), cc (o.4, c.in-Some.ensures.found))

pub returns-in-Some-after-clause-found : goal.returns-in-Some-after-clause-found
returns-in-Some-after-clause-found c =
    let o = c.in_ok-behind.ensures.found in
    (behind o.0 o.1, o.2, omega (arith, signed_arith, o.3), cc (o.4, c.in-Some-after.ensures.found))
