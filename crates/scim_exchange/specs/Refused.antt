-- Results that may be a refusal (RFC 7644 section 3.12).
use Rattle.std.specs.Prelude.{◌≡◌, Result, Ok, Err}
use Rattle.scim_audit.specs.declared.refusals.Refusal.{Refusal}

-- the result of applying `f` to the value, or the refusal if there is no value
infixl 10 ◌>>=◌
abbrev pub ◌>>=◌ : {A B : Type 0} → Result A Refusal → (A → Result B Refusal) → Result B Refusal
(Ok x) >>= f = f x
(Err refusal) >>= f = Err refusal

-- the result agrees with the expected result `due`: both are values, which P relates, or both are the same
-- refusal
abbrev pub Tells : {X Y : Type 0} → (Y → X → Type 0) → Result Y Refusal → Result X Refusal → Type 0
Tells P due (Ok x) = (y : _) × (due ≡ Ok y) × P y x
Tells P due (Err refusal) = due ≡ Err refusal
