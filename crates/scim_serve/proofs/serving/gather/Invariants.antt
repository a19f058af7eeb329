use Rattle.std.proofs.Common.{◌≡◌, ◌≤◌, ℕ, List, ◌++◌, map, true, IsTrue, vec_len}
use Rattle.std.specs.Vec.{vec_capacity}
use Rattle.scim_hub.specs.HubStates.{owned_event_of}
use Rattle.scim_hub.specs.declared.owned_events.OwnedEvent.{OwnedEvent}
use Rattle.scim_serve.proofs.serving.gather.Given as goal

-- the events that were ready so far are behind those from before, and there is room for the others
abbrev pub invariant-loop : goal.invariant-loop
invariant-loop g l = record {
  size : vec_len l.events ≡ l.counter;
  room : l.most ≤ vec_capacity l.events;
  gathered : IsTrue g.P.Peers.is_known → (ready : List OwnedEvent) × (l.events.items ≡ l.fn.events.items ++ ready)
      × (g.P.Peers.seen l.peers ≡ g.P.Peers.seen l.fn.peers ++ map owned_event_of ready);
  written : IsTrue g.P.Peers.is_known → (m : ℕ) → g.P.Peers.written l.peers m ≡ g.P.Peers.written l.fn.peers m;
  takes : IsTrue g.P.Peers.is_known → (m : ℕ) → g.P.Peers.takes_all l.peers m ≡ true → g.P.Peers.takes_all l.fn.peers m ≡ true;
  closed : IsTrue g.P.Peers.is_known → (m : ℕ) → g.P.Peers.is_closed l.peers m ≡ g.P.Peers.is_closed l.fn.peers m;
}
