-- The events that connections report.
use Rattle.std.specs.Prelude.{◌≡◌, ℕ, Bool, true, false, List, [], ◌∷◌, Option, None, Some, Result, Ok}
use Rattle.scim_hub.specs.Events.{HubEvent}
use Rattle.scim_hub.specs.declared.owned_events.OwnedEvent.{OwnedEvent}
use Rattle.scim_hub.specs.HubStates.{owned_event_of}
use Rattle.scim_serve.specs.declared.peers.PeerEvent.{PeerEvent}
use Rattle.scim_serve.specs.declared.peers.PeerEvent.TheVariants.{Event}
use Rattle.scim_serve.specs.declared.peers.PeersFault.{PeersFault}

-- the hub's event that a call of `next` reported, if any
abbrev pub told_by : Result (Option PeerEvent) PeersFault → List HubEvent
told_by (Ok (Some (Event event))) = owned_event_of event ∷ []
told_by _ = []

-- the hub's event that a call of `next_ready` reported, if any
abbrev pub told_ready : Option OwnedEvent → List HubEvent
told_ready (Some event) = owned_event_of event ∷ []
told_ready None = []

-- whether a call of `next` reported the end
abbrev pub ends : Result (Option PeerEvent) PeersFault → Bool
ends (Ok None) = true
ends _ = false

-- the events reported, the bytes taken and the connections closed are unchanged
pub record KeepsClients {P : Type 0} (seen : P → List HubEvent) (written : P → ℕ → List ℕ) (takes_all is_closed : P → ℕ → Bool) (old new : P) : Type 0 where
  pub seen_same : seen new ≡ seen old
  pub written_same : (m : ℕ) → written new m ≡ written old m
  pub takes_same : (m : ℕ) → takes_all new m ≡ takes_all old m
  pub closed_same : (m : ℕ) → is_closed new m ≡ is_closed old m
