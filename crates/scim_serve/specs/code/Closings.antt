-- Which connections are to be closed after their pending bytes.
use Rattle.std.specs.Prelude.{◌≡◌, ◌≢◌, ◌≤◌, ℕ, Bool, true, false, ◌||◌, Option, Some, IfSome}
use Rattle.scim_serve.specs.declared.pending_bytes.Waiting.{Waiting}
use Rattle.scim_serve.specs.code.Rests.{Rest, finished}
use Rattle.scim_serve.specs.code.Waiting.{waiting_for}

-- a connection that was shut and can be written to is to be closed
abbrev pub IsMarked : Option Rest → Bool → Type 0
IsMarked rest shut = shut ≡ true → IfSome rest (λ r. r.closing ≡ true)

-- for every connection: if it was to be closed, it still is; if `shuts` is true of it, it is to be closed
-- afterwards
abbrev pub Marks : (ℕ → Bool) → Waiting → Waiting → Type 0
Marks shuts waiting waiting_then =
    (m : ℕ) (shut : Bool) → IsMarked (waiting_for waiting m) shut → IsMarked (waiting_for waiting_then m) (shut || shuts m)

-- no connection waits to be closed without pending bytes; each connection that was shut is to be closed or
-- can't be written to; no connection with a number from `next` on was shut
pub record IsClosing (waiting : Waiting) (shut : ℕ → Bool) : Type 0 where
  pub unfinished : (m : ℕ) → waiting_for waiting m ≢ Some finished
  pub marked : (m : ℕ) → IsMarked (waiting_for waiting m) (shut m)
  pub fresh : (m : ℕ) → waiting.next ≤ m → shut m ≡ false
