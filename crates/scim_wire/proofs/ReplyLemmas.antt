-- Texts that a reply may have.
use Rattle.std.proofs.Common.{◌≡◌, refl, ℕ, true, false, not, ◌&&◌, nat_lt, ◌==◌, List, Option, None, Some, is_some, Bor, arith}
use Rattle.std.proofs.lemmas.Bool.Decides.{nat_tests}
use Rattle.std.specs.Option.{option_copied}
use Rattle.http.specs.StatusCode.{IsStatusCode, reason_phrase}

-- a text is there where what points to it is
pub is_some-copied : (o : Option (Bor (List ℕ))) → is_some (option_copied o) ≡ is_some o
is_some-copied None = refl
is_some-copied (Some b) = refl

-- a number that isn't one of three digits is none that is
differs : (n : ℕ) → ¬ (IsStatusCode n) → (k : ℕ) → (not (nat_lt k 100) && nat_lt k 1000) ≡ true → (n == k) ≡ false
differs n h k e = grind (arith, nat_tests)

-- a number that isn't one of three digits has no phrase
pub no_phrase : (n : ℕ) → ¬ (IsStatusCode n) → reason_phrase n ≡ None
no_phrase n h = simp (differs n h)
