-- The invariant that proves that a connection which takes all bytes offered to it gets all of its text, and
-- that a connection which was shut is closed once it has taken all of it.
use Rattle.std.specs.Prelude.{◌≡◌, ◌≢◌, ◌⊎◌, ℕ, Bool, true, false, List, [], Option, None, Some, IsSome}
use Rattle.scim_hub.specs.Events as event
use Rattle.scim_hub.specs.Events.{Connection, absent, HubEvent, HubState}
use Rattle.scim_serve.specs.declared.pending_bytes.Waiting.{Waiting}
use Rattle.scim_serve.specs.Serving.{has_left}
use Rattle.scim_serve.specs.code.Rests.{Rest}
use Rattle.scim_serve.specs.code.Waiting.{waiting_for}

-- a connection that takes all offered bytes has no pending bytes
abbrev pub AllTaken : Option Rest → Bool → Type 0
AllTaken None takes_all = Unit {0}
AllTaken (Some rest) takes_all = takes_all ≡ true → rest.bytes ≡ []

-- a connection that isn't closed afterwards wasn't closed before, and can still be written to if it could
-- before
abbrev pub StaysOpen : Option Rest → Bool → Option Rest → Bool → Type 0
StaysOpen rest is_closed rest_then is_closed_then = is_closed_then ≡ false → (is_closed ≡ false) × (IsSome rest → IsSome rest_then)

-- a connection that can't be written to is absent; unless it has left, no bytes must be written to it; if it
-- was shut, it hasn't taken all bytes that must be written to it
abbrev pub IsAway : Connection → Bool → List ℕ → List ℕ → Bool → Type 0
IsAway connection has_left written due shut = (connection ≡ absent) × (has_left ≡ false → due ≡ []) × (shut ≡ true → written ≢ due)

-- connections that take all offered bytes have no pending bytes; each connection that was absent at first and
-- isn't closed can be written to or is away, and if the hub shut it, then by an output
pub record IsWhole (first state : HubState) (seen : List HubEvent) (written : ℕ → List ℕ) (takes_all is_closed : ℕ → Bool) (waiting : Waiting) (due : ℕ → List ℕ)
    (shut : ℕ → Bool) : Type 0 where
  pub taken : (m : ℕ) → AllTaken (waiting_for waiting m) (takes_all m)
  pub open_to : (m : ℕ) → first.connections m ≡ absent → is_closed m ≡ false
      → IsSome (waiting_for waiting m) ⊎ IsAway (state.connections m) (has_left m seen) (written m) (due m) (shut m)
  pub ended : (m : ℕ) → first.connections m ≡ absent → is_closed m ≡ false → state.connections m ≡ event.shut → shut m ≡ true
