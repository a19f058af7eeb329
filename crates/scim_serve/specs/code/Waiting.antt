-- What is pending for all connections.
use Rattle.std.specs.Prelude.{◌≡◌, ℕ, ◌==◌, Option, if◌then◌else◌}
use Rattle.std.specs.Ordering.{nat_cmp}
use Rattle.std.specs.BTreeMap.{get}
use Rattle.scim_serve.specs.declared.pending_bytes.Waiting.{Waiting}
use Rattle.scim_serve.specs.code.Rests.{Rest}

-- what is pending for a connection, if it can be written to
abbrev pub waiting_for : Waiting → ℕ → Option Rest
waiting_for waiting m = get nat_cmp waiting.by_number m

-- `rest` is pending for connection n, and what is pending for all other connections is unchanged
pub record Becomes (n : ℕ) (rest : Option Rest) (old new : Waiting) : Type 0 where
  pub waits : (m : ℕ) → waiting_for new m ≡ (if n == m then rest else waiting_for old m)
  pub next : new.next ≡ old.next

-- what is pending for all connections is unchanged
pub record Stays (old new : Waiting) : Type 0 where
  pub waits : (m : ℕ) → waiting_for new m ≡ waiting_for old m
  pub next : new.next ≡ old.next
