-- The state of a hub and its outputs, in the types of the specification.
use Rattle.std.specs.Prelude.{ℕ, List, map, Option, None, Some, Result, Ok, Err, string_bytes}
use Rattle.std.specs.Ordering.{nat_cmp}
use Rattle.std.specs.BTreeMap.{get}
use Rattle.std.specs.Global.{Vec}
use Rattle.scim_shelf.specs.Stores.{Store, IsStore}
use Rattle.scim_wire.specs.Wires.{StandsFor}
use Rattle.scim_hub.specs.declared.connections.Connection as code
use Rattle.scim_hub.specs.declared.connections.Connection.TheVariants.{Open, Shut}
use Rattle.scim_hub.specs.declared.connections.Connections.{Connections}
use Rattle.scim_hub.specs.declared.events.Event.{Event}
use Rattle.scim_hub.specs.declared.events.EventAnswer.{EventAnswer}
use Rattle.scim_hub.specs.declared.events.EventKind.{EventKind}
use Rattle.scim_hub.specs.declared.events.EventKind.TheVariants.{Joined, Piece, Left}
use Rattle.scim_hub.specs.declared.events.HubFault.{HubFault}
use Rattle.scim_hub.specs.declared.events.Output.{Output}
use Rattle.scim_hub.specs.declared.events.Output.TheVariants as output
use Rattle.scim_hub.specs.declared.hubs.Hub.{Hub}
use Rattle.scim_hub.specs.declared.owned_events.OwnedEventKind as kept
use Rattle.scim_hub.specs.declared.owned_events.OwnedEventKind.TheVariants as kept_variant
use Rattle.scim_hub.specs.declared.owned_events.OwnedEvent.{OwnedEvent}
use Rattle.scim_hub.specs.Events.{HubEventKind, joining, sending, leaving, HubEvent, Connection, absent, joined, shut, HubState, HubOutput, writing, shutting}

-- the program's connection is in this state; a connection that doesn't exist is in the state `absent`
abbrev pub IsKept : Option code.Connection → Connection → Type 0
IsKept None absent = Unit {0}
IsKept (Some (Open wire)) (joined stream items) = StandsFor wire stream items
IsKept (Some Shut) shut = Unit {0}
IsKept _ _ = ⊥

-- for each number n, the program's connection with this number is in the state `connections n`
abbrev pub AreConnections : Connections → (ℕ → Connection) → Type 0
AreConnections kept connections = (n : ℕ) → IsKept (get nat_cmp kept.by_number n) (connections n)

-- the hub is in this state: its shelf contains the state's store, whose resources are below the hub's base
-- URI, and for each number n, the hub's connection with this number is in the state `state.connections n`
pub record IsHubState {H : Type 0} (Stands : H → Store → Type 0) (hub : Hub H) (state : HubState) : Type 0 where
  pub store : Stands hub.service.shelf state.store
  pub is_store : IsStore hub.service.base state.store
  pub connections : AreConnections hub.connections state.connections

-- the kind of an event, with the bytes of a piece, in the type of the specification
abbrev pub event_kind_of : EventKind → HubEventKind
event_kind_of Joined = joining
event_kind_of (Piece bytes) = sending bytes.now
event_kind_of Left = leaving

-- the event, with the bytes of a piece, in the type of the specification
abbrev pub event_of : Event → HubEvent
event_of event = record { connection = event.connection; stamp = event.stamp; kind = event_kind_of event.kind }

-- the kind of an event that owns its piece, in the type of the specification
abbrev pub owned_event_kind_of : kept.OwnedEventKind → HubEventKind
owned_event_kind_of kept_variant.Joined = joining
owned_event_kind_of (kept_variant.Piece bytes) = sending bytes.items
owned_event_kind_of kept_variant.Left = leaving

-- the event that owns its piece, in the type of the specification
abbrev pub owned_event_of : OwnedEvent → HubEvent
owned_event_of r = record { connection = r.connection; stamp = r.stamp; kind = owned_event_kind_of r.kind }

-- the output, in the type of the specification
abbrev pub output_of : Output → HubOutput
output_of (output.Write n text) = writing n (string_bytes text)
output_of (output.Shut n) = shutting n

-- the outputs for an event, or its error, in the type of the specification
abbrev pub done : Result (Vec Output) HubFault → Result (List HubOutput) HubFault
done (Ok outputs) = Ok (map output_of outputs.items)
done (Err fault) = Err fault

-- the outputs for an event of a round, or its error, in the type of the specification
abbrev pub result_of : EventAnswer → Result (List HubOutput) HubFault
result_of answer = done answer.result
