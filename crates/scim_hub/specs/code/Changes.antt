-- The results of changes to connections.
use Rattle.std.specs.Prelude.{◌≡◌, ℕ, List, [], ◌++◌, Option, Some, Result, Ok, Err, MatchResult}
use Rattle.std.specs.Global.{Vec}
use Rattle.scim_wire.specs.declared.messages.Item.{Item}
use Rattle.scim_wire.specs.Messages.{HasItems}
use Rattle.scim_wire.specs.Wires.{StandsFor}
use Rattle.scim_hub.specs.declared.connections.Connection as code
use Rattle.scim_hub.specs.declared.connections.Connection.TheVariants.{Open, Shut}
use Rattle.scim_hub.specs.declared.connections.Connections.{Connections}
use Rattle.scim_hub.specs.declared.events.HubFault.{HubFault}
use Rattle.scim_hub.specs.declared.events.HubFault.TheVariants.{AlreadyJoined, Unknown, Closed, NoMemory}
use Rattle.scim_hub.specs.Events.{Connection, absent, joined, shut, set}
use Rattle.scim_hub.specs.HubStates.{AreConnections, IsKept}

-- an open connection has read the piece, or is shut after `NoMemory`
abbrev pub IsReadOn : List ℕ → List Item → List ℕ → Result (Vec Item) HubFault → Option code.Connection → Type 0
IsReadOn stream items bytes (Ok new) kept = IsKept kept (joined (stream ++ bytes) (items ++ new.items))
IsReadOn stream items bytes (Err fault) kept = (fault ≡ NoMemory) × (kept ≡ Some Shut)

-- the connection has read the piece, or can't be read further
abbrev pub IsRead : code.Connection → List ℕ → Result (Vec Item) HubFault → code.Connection → Type 0
IsRead (Open wire) bytes result new =
    (stream : List ℕ) (items : List Item) → StandsFor wire stream items
    → MatchResult result (λ more. IsKept (Some new) (joined (stream ++ bytes) (items ++ more.items))) (λ fault. fault ≡ NoMemory)
IsRead Shut bytes result new = result ≡ Err Closed

-- the connection has read the piece, or is shut
abbrev pub IsFed : code.Connection → List ℕ → Result (Vec Item) HubFault → code.Connection → Type 0
IsFed (Open wire) bytes result new = (stream : List ℕ) (items : List Item) → StandsFor wire stream items → IsReadOn stream items bytes result (Some new)
IsFed Shut bytes result new = (result ≡ Err Closed) × (new ≡ Shut)

-- the connection has joined with the number, or the result is the error for the number's state
abbrev pub IsJoined : Connection → ℕ → (ℕ → Connection) → Result Unit HubFault → Connections → Type 0
IsJoined absent n connections (Ok x) new = AreConnections new (set n (joined [] []) connections)
IsJoined absent n connections (Err fault) new = (fault ≡ NoMemory) × AreConnections new connections
IsJoined _ n connections (Ok x) new = ⊥
IsJoined _ n connections (Err fault) new = (fault ≡ AlreadyJoined) × AreConnections new connections

-- the connection with the number has left, or the result is the error for the number's state
abbrev pub IsGone : Connection → ℕ → (ℕ → Connection) → Result Unit HubFault → Connections → Type 0
IsGone absent n connections (Ok x) new = ⊥
IsGone absent n connections (Err fault) new = (fault ≡ Unknown) × AreConnections new connections
IsGone _ n connections (Ok x) new = AreConnections new (set n absent connections)
IsGone _ n connections (Err fault) new = ⊥

-- the connection with the number has read the piece, or the result is the error for the connection's state
abbrev pub IsPieceTaken : Connection → ℕ → List ℕ → (ℕ → Connection) → Result (Vec Item) HubFault → Connections → Type 0
IsPieceTaken (joined stream items) n bytes connections (Ok new) kept =
    HasItems (stream ++ bytes) (items ++ new.items) × AreConnections kept (set n (joined (stream ++ bytes) (items ++ new.items)) connections)
IsPieceTaken (joined stream items) n bytes connections (Err fault) kept = (fault ≡ NoMemory) × AreConnections kept (set n shut connections)
IsPieceTaken absent n bytes connections (Err fault) kept = (fault ≡ Unknown) × AreConnections kept connections
IsPieceTaken shut n bytes connections (Err fault) kept = (fault ≡ Closed) × AreConnections kept connections
IsPieceTaken _ n bytes connections (Ok new) kept = ⊥
