use Rattle.std.proofs.Common.{◌≡◌, ◌≤◌, ◌≤ℤ◌, ◌↔◌, ℕ, ℤ, Option, None, Some, IsSome, IfSome, pos, ap, arith, rules}
use Rattle.jiff_core.proofs.SignedLemmas.{signed_arith, signed_casts}
use Rattle.scim_text.specs.Moments.{last_moment}
use Rattle.scim_text.specs.Readings.{Spells}
use Rattle.scim_text.specs.declared.moment_readings.Reading.{Reading}
use Rattle.scim_text.proofs.MomentInLemmas.{one_reading}
use Rattle.scim_text.proofs.moments.moment_meant.Goals as goal

-- where the second is in range, `Moment::new` gives that moment
is_moment : (made : Option ℕ) (second : ℤ) (n : ℕ) → n ≤ last_moment → second ≡ pos n → IsSome made ↔ (pos 0 ≤ℤ second × (second ≤ℤ pos last_moment)) → IfSome made (λ moment. pos moment ≡ second) → made ≡ Some n
is_moment None second n high e range value = let some : IsSome {T = ℕ} None = range.1 (omega (arith, signed_arith), omega (arith, signed_arith)) in cc
is_moment (Some m) second n high e range value = let same : m ≡ n = omega (arith, signed_arith, value) in ap Some same

pub returns-then-reading-clause-complete : goal.returns-then-reading-clause-complete
returns-then-reading-clause-complete c n high spells =
    let given : Spells c.args.text.now c.in_ok-reading.reading = search rules in
    let later = ap (λ (r : Reading). r.later) (one_reading c.args.text.now _ _ given spells) in
    cc

pub returns-clause-complete : goal.returns-clause-complete
returns-clause-complete c n high spells =
    let given : Spells c.args.text.now c.in_ok-reading.reading = search rules in
    let second = ap (λ (r : Reading). r.second) (one_reading c.args.text.now _ _ given spells) in
    is_moment c.new.result _ n high (omega (arith, signed_casts, second)) c.new.ensures.in_range c.new.ensures.value
