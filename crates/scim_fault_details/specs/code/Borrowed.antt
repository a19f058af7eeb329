-- Borrowed texts, as the texts that they are.
use Rattle.std.specs.Prelude.{ℕ, List}
use Rattle.std.specs.Borrow.{Bor}

-- the bytes of a borrowed text
abbrev pub text_at : Bor (List ℕ) → List ℕ
text_at t = t.now
