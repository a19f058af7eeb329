use Rattle.std.proofs.Common.{arith}
use Rattle.jiff_core.proofs.SignedLemmas.{signed_arith}
use Rattle.scim_text.proofs.Spellings.{same_reading}
use Rattle.scim_text.proofs.moment_readings.read_bytes.Goals as goal

pub overflow_add-result : goal.overflow_add-result
overflow_add-result c = omega (arith, signed_arith, c.in_ok-day.ensures.range, c.in_ok-clock.ensures.bound)

pub overflow_sub-result : goal.overflow_sub-result
overflow_sub-result c = omega (arith, signed_arith, c.in_ok-day.ensures.range, c.in_ok-clock.ensures.bound, c.in_ok-ahead.ensures.range)

pub returns-clause-found : goal.returns-clause-found
returns-clause-found c =
    let d = c.in_ok-day.ensures.found in
    let t = c.in_ok-clock.ensures.found in
    let f = c.in_ok-later.ensures.found in
    let z = c.in_ok-ahead.ensures.found in
    let range = c.in_ok-day.ensures.range in
    let bound = c.in_ok-clock.ensures.bound in
    let ahead = c.in_ok-ahead.ensures.range in record {
      spelling = record { date = d.0; clock = t.0; fraction = f.0; zone = z.0 };
      is_spelling = record { date = d.1; clock = t.1; fraction = f.1; zone = z.1 };
      written = cc;
      meant = same_reading _ _ (omega (arith, signed_arith, range, bound, ahead, d.2, t.2, z.2)) f.2;
    }
