-- Counts in code, which stop at the largest `usize`.
use Rattle.std.specs.Prelude.{ℕ, ◌-◌, ◌^◌, min}

-- the number, or the largest `usize` if that is less
abbrev pub capped : ℕ → ℕ
capped n = min n (2 ^ 64 - 1)
