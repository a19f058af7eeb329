-- The range of numbers of a read of audit rows.
use Rattle.std.specs.Prelude.{◌≡◌, ℕ, ◌+◌, min, max}
use Rattle.scim_store_tables.specs.Audit.{last_number}

-- The range of the `count` numbers that start at `from`, where 0 counts as 1. `first` is the first number,
-- but at most 2^63 - 2. `end` is the number after the last one, but at most 2^63 - 1.
pub record IsSpan (from count first end : ℕ) : Type 0 where
  pub begins : first ≡ min (max from 1) 9223372036854775806
  pub ends : end ≡ min (max from 1 + count) last_number
