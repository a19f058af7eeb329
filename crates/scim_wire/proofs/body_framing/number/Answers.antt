use Rattle.std.proofs.Common.{◌≡◌, get_or, arith}
use Rattle.std.specs.Char.{digit_value}
use Rattle.std.proofs.lemmas.Grind.{common_steps}
use Rattle.std.proofs.lemmas.Bool.Decides.{nat_tests}
use Rattle.std.proofs.lemmas.Int.Digits.{digits_value_more}
use Rattle.scim_wire.proofs.body_framing.number.Goals as goal

pub loop-digit-preserved : goal.loop-digit-preserved
loop-digit-preserved c =
    let digit : digit_value (get_or c.args.digits.now c.loop-digit.digit-index 0) ≡ c.from.result = grind (arith, nat_tests) in (
      omega (arith, digits_value_more 10 c.args.digits.now _ c.loop-digit-test.true, c.min-number.ensures, c.loop-digit.invariant.0),
      grind (arith, common_steps),
    )
