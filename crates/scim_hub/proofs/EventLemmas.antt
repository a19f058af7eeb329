-- What it comes to that a connection joins or leaves.
use Rattle.std.proofs.Common.{refl, ap, inl, inr, ℕ, []}
use Rattle.std.specs.Prelude.{Ok, Err}
use Rattle.scim_hub.specs.declared.connections.Connections.{Connections}
use Rattle.scim_hub.specs.declared.events.HubFault.{HubFault}
use Rattle.scim_hub.specs.Events.{Connection, absent, joined, shut, set, HubState, Joins, Leaves}
use Rattle.scim_hub.specs.HubStates.{AreConnections}
use Rattle.scim_hub.specs.code.Changes.{IsJoined, IsGone}

-- a connection joined
pub joins : (c : Connection) (n : ℕ) (state : HubState) (x : Unit {0}) (new : Connections) → IsJoined c n state.connections (Ok x) new
    → AreConnections new (set n (joined [] []) state.connections) × Joins c n state (Ok []) (record { connections = set n (joined [] []) state.connections; store = state.store })
joins absent n state x new are = (are, inl (refl, refl))
joins (joined stream items) n state x new are = absurd are
joins shut n state x new are = absurd are

-- or didn't
pub joins_not : (c : Connection) (n : ℕ) (state : HubState) (fault : HubFault) (new : Connections) → IsJoined c n state.connections (Err fault) new
    → AreConnections new state.connections × Joins c n state (Err fault) state
joins_not absent n state fault new (is, are) = (are, inr (ap Err is, refl))
joins_not (joined stream items) n state fault new (is, are) = (are, (ap Err is, refl))
joins_not shut n state fault new (is, are) = (are, (ap Err is, refl))

-- a connection left
pub leaves : (c : Connection) (n : ℕ) (state : HubState) (x : Unit {0}) (new : Connections) → IsGone c n state.connections (Ok x) new
    → AreConnections new (set n absent state.connections) × Leaves c n state (Ok []) (record { connections = set n absent state.connections; store = state.store })
leaves absent n state x new are = absurd are
leaves (joined stream items) n state x new are = (are, (refl, refl))
leaves shut n state x new are = (are, (refl, refl))

-- or there was none
pub leaves_not : (c : Connection) (n : ℕ) (state : HubState) (fault : HubFault) (new : Connections) → IsGone c n state.connections (Err fault) new
    → AreConnections new state.connections × Leaves c n state (Err fault) state
leaves_not absent n state fault new (is, are) = (are, (ap Err is, refl))
leaves_not (joined stream items) n state fault new are = absurd are
leaves_not shut n state fault new are = absurd are
