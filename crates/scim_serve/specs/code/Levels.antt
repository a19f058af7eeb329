-- The bytes that were written to connections or are pending, compared with the bytes that must be written.
use Rattle.std.specs.Prelude.{◌≡◌, ◌≤◌, ℕ, false, List, [], ◌++◌, Option, None, Some, Result}
use Rattle.scim_hub.specs.declared.events.HubFault.{HubFault}
use Rattle.scim_hub.specs.Events.{HubOutput}
use Rattle.scim_serve.specs.declared.pending_bytes.Waiting.{Waiting}
use Rattle.scim_serve.specs.Serving.{IsFront, due_for, shut_for}
use Rattle.scim_serve.specs.code.Rests.{Rest}
use Rattle.scim_serve.specs.code.Waiting.{waiting_for}

-- the written bytes followed by the pending bytes are the bytes that must be written; if the connection can't
-- be written to, the written bytes are a prefix of them
abbrev pub Fits : Option Rest → List ℕ → List ℕ → Type 0
Fits None written due = IsFront written due
Fits (Some rest) written due = written ++ rest.bytes ≡ due

-- the bytes of every connection fit the bytes that must be written to it, and no bytes must be written to
-- connections with numbers from `next` on
pub record IsLevel (written : ℕ → List ℕ) (waiting : Waiting) (due : ℕ → List ℕ) : Type 0 where
  pub fits : (m : ℕ) → Fits (waiting_for waiting m) (written m) (due m)
  pub fresh : (m : ℕ) → waiting.next ≤ m → due m ≡ []

-- for every connection: written and pending bytes that fit some bytes `due` still fit them afterwards
abbrev pub Keeps : (ℕ → List ℕ) → Waiting → (ℕ → List ℕ) → Waiting → Type 0
Keeps written waiting written_then waiting_then =
    (m : ℕ) (due : List ℕ) → Fits (waiting_for waiting m) (written m) due → Fits (waiting_for waiting_then m) (written_then m) due

-- for every connection: written and pending bytes that fit some bytes `due` fit `due` with `more` appended
-- afterwards
abbrev pub Grows : (ℕ → List ℕ) → (ℕ → List ℕ) → Waiting → (ℕ → List ℕ) → Waiting → Type 0
Grows more written waiting written_then waiting_then =
    (m : ℕ) (due : List ℕ) → Fits (waiting_for waiting m) (written m) due → Fits (waiting_for waiting_then m) (written_then m) (due ++ more m)

-- the result of an event writes nothing to connection m, and doesn't shut it
abbrev pub IsNotFor : ℕ → Result (List HubOutput) HubFault → Type 0
IsNotFor m result = (due_for m result ≡ []) × (shut_for m result ≡ false)

-- the result of an event of connection n is for no other connection
abbrev pub IsOnlyFor : ℕ → Result (List HubOutput) HubFault → Type 0
IsOnlyFor n result = (m : ℕ) → (n ≡ m → ⊥) → IsNotFor m result
