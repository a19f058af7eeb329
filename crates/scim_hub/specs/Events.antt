-- The events of many connections: the outputs for each event, and the hub's connections and store after it.
use Rattle.std.specs.Prelude.{◌≡◌, ◌⊎◌, ℕ, ◌==◌, Bool, List, [], ◌∷◌, ◌++◌, map, Result, Ok, Err, if◌then◌else◌}
use Rattle.scim_policy.specs.Rules.{Rule}
use Rattle.scim_shelf.specs.Stores.{Store}
use Rattle.scim_wire.specs.declared.messages.Item.{Item}
use Rattle.scim_wire.specs.Messages.{HasItems}
use Rattle.scim_token.specs.TokenFile.{Entry}
use Rattle.scim_hub.specs.declared.events.Stamp.{Stamp}
use Rattle.scim_hub.specs.declared.events.HubFault.{HubFault}
use Rattle.scim_hub.specs.declared.events.HubFault.TheVariants.{AlreadyJoined, Unknown, Closed, NoMemory}
use Rattle.scim_hub.specs.Answering.{AreAnswered}

-- what occurs on a connection: it is opened, the next piece of its stream arrives with these bytes, or it is
-- closed
pub data HubEventKind : Type 0 where
  joining : HubEventKind
  sending : List ℕ → HubEventKind
  leaving : HubEventKind

-- an event: what occurs on the connection with a number, with its stamp
pub record HubEvent : Type 0 where
  pub connection : ℕ
  pub stamp : Stamp
  pub kind : HubEventKind

-- the state of a connection: absent; joined, with the stream read so far and the items that were read from
-- it; or shut, with its stream ignored
pub data Connection : Type 0 where
  absent : Connection
  joined : List ℕ → List Item → Connection
  shut : Connection

-- the state of a hub: the connections by number, and the store
pub record HubState : Type 0 where
  pub connections : ℕ → Connection
  pub store : Store

-- the state of a hub without connections over a store
abbrev pub none_joined : Store → HubState
none_joined store = record { connections = λ _. absent; store = store }

-- the connections after the state of connection n is replaced by `connection`
abbrev pub set : ℕ → Connection → (ℕ → Connection) → ℕ → Connection
set n connection connections m = if n == m then connection else connections m

-- an output of a hub: a text is written to a connection, or a connection is shut
pub data HubOutput : Type 0 where
  writing : ℕ → List ℕ → HubOutput
  shutting : ℕ → HubOutput

-- the outputs that write the texts to connection n in order, and then shut it if `closed` is true
abbrev pub hub_outputs : ℕ → List (List ℕ) → Bool → List HubOutput
hub_outputs n texts closed = map (writing n) texts ++ (if closed then shutting n ∷ [] else [])

-- the event fails with this fault and changes nothing
abbrev pub IsDenied : HubFault → HubState → Result (List HubOutput) HubFault → HubState → Type 0
IsDenied fault state result next = (result ≡ Err fault) × (next ≡ state)

-- the next state has the store `store`, and its connection n has the state `connection`; all other
-- connections are unchanged
abbrev pub Becomes : ℕ → Connection → Store → HubState → HubState → Type 0
Becomes n connection store state next = next ≡ record { connections = set n connection state.connections; store = store }

-- a connection joins with number n: it is added, with nothing read from its stream; if the number is in use
-- or memory runs out, the result is the error `AlreadyJoined` or `NoMemory`, and nothing changes
abbrev pub Joins : Connection → ℕ → HubState → Result (List HubOutput) HubFault → HubState → Type 0
Joins absent n state result next = ((result ≡ Ok []) × Becomes n (joined [] []) state.store state next) ⊎ IsDenied NoMemory state result next
Joins _ n state result next = IsDenied AlreadyJoined state result next

-- a connection leaves, and its number is free afterwards; the error `Unknown` if no connection has the number
abbrev pub Leaves : Connection → ℕ → HubState → Result (List HubOutput) HubFault → HubState → Type 0
Leaves absent n state result next = IsDenied Unknown state result next
Leaves _ n state result next = (result ≡ Ok []) × Becomes n absent state.store state next

module _ (policy : List Rule) (base : List ℕ) (entries : List Entry) where
  -- the items that the piece completes are answered; then the connection is shut if a reply closes it, and
  -- otherwise remains joined
  pub record IsTaken (stamp : Stamp) (n : ℕ) (stream : List ℕ) (items : List Item) (state : HubState) (result : Result (List HubOutput) HubFault) (next : HubState) : Type 0 where
    pub new : List Item
    pub has_items : HasItems stream (items ++ new)
    pub texts : List (List ℕ)
    pub closed : Bool
    pub store : Store
    pub answered : AreAnswered policy base entries stamp 0 new state.store texts closed store
    pub result_is : result ≡ Ok (hub_outputs n texts closed)
    pub becomes : Becomes n (if closed then shut else joined stream (items ++ new)) store state next

  -- a prefix of the new items of the stream has been answered, which changed the store from `old` to `store`
  pub record AreBegun (stamp : Stamp) (stream : List ℕ) (items : List Item) (old store : Store) : Type 0 where
    pub front : List Item
    pub back : List Item
    pub has_items : HasItems stream (items ++ (front ++ back))
    pub texts : List (List ℕ)
    pub closed : Bool
    pub answered : AreAnswered policy base entries stamp 0 front old texts closed store

  -- memory ran out: the connection is shut and the outputs are lost; the store is unchanged, or it is the
  -- store after a prefix of the new items was answered
  pub record IsCutOff (stamp : Stamp) (n : ℕ) (stream : List ℕ) (items : List Item) (state : HubState) (result : Result (List HubOutput) HubFault) (next : HubState) : Type 0 where
    pub store : Store
    pub changed : (store ≡ state.store) ⊎ AreBegun stamp stream items state.store store
    pub result_is : result ≡ Err NoMemory
    pub becomes : Becomes n shut store state next

  -- the next piece of a connection's stream arrives and is answered; the error `Unknown` if the connection is
  -- absent, `Closed` if it is shut, and `NoMemory` if memory runs out
  abbrev pub Takes : Connection → Stamp → ℕ → List ℕ → HubState → Result (List HubOutput) HubFault → HubState → Type 0
  Takes absent stamp n bytes state result next = IsDenied Unknown state result next
  Takes shut stamp n bytes state result next = IsDenied Closed state result next
  Takes (joined stream items) stamp n bytes state result next =
      IsTaken stamp n (stream ++ bytes) items state result next ⊎ IsCutOff stamp n (stream ++ bytes) items state result next

  -- the result and the next state of a hub after an event of this kind on connection n
  abbrev pub Meets : HubEventKind → Stamp → ℕ → HubState → Result (List HubOutput) HubFault → HubState → Type 0
  Meets joining stamp n state result next = Joins (state.connections n) n state result next
  Meets (sending bytes) stamp n state result next = Takes (state.connections n) stamp n bytes state result next
  Meets leaving stamp n state result next = Leaves (state.connections n) n state result next

  -- the result and the next state of a hub after an event
  abbrev pub Hears : HubEvent → HubState → Result (List HubOutput) HubFault → HubState → Type 0
  Hears seen state result next = Meets seen.kind seen.stamp seen.connection state result next

  -- the results of events one after another, and the state after the last
  abbrev pub Runs : HubState → List HubEvent → List (Result (List HubOutput) HubFault) → HubState → Type 0
  Runs state [] results next = (results ≡ []) × (next ≡ state)
  Runs state (seen ∷ events) results next =
      (result : Result (List HubOutput) HubFault) × (mid : HubState) × (rest : List (Result (List HubOutput) HubFault))
      × (results ≡ result ∷ rest) × Hears seen state result mid × Runs mid events rest next
