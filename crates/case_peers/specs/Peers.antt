-- The state of scripted connections, and the events reported.
use Rattle.std.specs.Prelude.{ℕ, ◌==◌, Bool, true, false, List, [], take, Option, None, Some, Ok, if◌then◌else◌}
use Rattle.std.specs.List.{flat_map}
use Rattle.scim_hub.specs.Events.{HubEvent}
use Rattle.scim_serve.specs.Peers.{told_by}
use Rattle.scim_serve.specs.declared.peers.PeerEvent.{PeerEvent}
use Rattle.case_peers.specs.declared.scripted_peers.ScriptedPeer.{ScriptedPeer}
use Rattle.case_peers.specs.declared.scripted_peers.ScriptedPeers.{ScriptedPeers}

-- the connection with the number m, or None if there is no such connection
abbrev pub peer_of : ScriptedPeers → ℕ → Option ScriptedPeer
peer_of peers m = if 0 == m then Some peers.first else if 1 == m then Some peers.second else None

-- the bytes that a connection has taken, or no bytes if the connection doesn't exist
abbrev pub taken_by : Option ScriptedPeer → List ℕ
taken_by None = []
taken_by (Some peer) = peer.taken.items

-- whether a connection exists and took all bytes of the last offer
abbrev pub takes_all : Option ScriptedPeer → Bool
takes_all None = false
takes_all (Some peer) = peer.takes_all

-- whether a connection is closed or doesn't exist
abbrev pub is_closed : Option ScriptedPeer → Bool
is_closed None = true
is_closed (Some peer) = peer.is_closed

-- the event for the hub in what the connections report, if any
abbrev pub heard_in : PeerEvent → List HubEvent
heard_in event = told_by (Ok (Some event))

-- the events for the hub that were reported so far
abbrev pub reported : ScriptedPeers → List HubEvent
reported peers = flat_map heard_in (take peers.reported peers.script.items)
