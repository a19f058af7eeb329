use Rattle.std.proofs.Common.{◌<◌, length, rules, tests}
use Rattle.scim_text.proofs.Fractions.{IsFraction-take_while, fraction_text-take_while, rest_of_fraction}
use Rattle.scim_text.proofs.moment_readings.fraction.Goals as goal

pub returns-clause-found : goal.returns-clause-found
returns-clause-found c =
    let written = c.in-Some.written.now in
    let front = c.digits.ensures.digits in
    let some : 0 < length c.digits.result.0.now = search (rules, tests) in (
      c.digits.result.0.now,
      rw front (IsFraction-take_while written),
      c.is_above_zero.ensures,
      cc (c.in-Some.ensures.found, fraction_text-take_while written (rw front at some), front, c.digits.ensures.rest),
    )

pub returns-clause-complete : goal.returns-clause-complete
returns-clause-complete c f z h e =
    let written = c.in-Some.written.now in
    rw c.digits.ensures.rest (rest_of_fraction written f z h (cc (e, c.in-Some.ensures.found)))
