-- What was made where nothing is refused.
use Rattle.std.proofs.Common.{◌≡◌, Bool, true, false, refl}
use Rattle.std.specs.Prelude.{Result, Ok, Err, if◌then◌else◌}

-- what isn't refused is what was made
pub not_refused : {X E : Type 0} (b : Bool) (e : E) (o : Result X E) (y : X) → (if b then Err e else o) ≡ Ok y → (b ≡ false) × (o ≡ Ok y)
not_refused true e o y h = absurd (cc h)
not_refused false e o y h = (refl, h)
