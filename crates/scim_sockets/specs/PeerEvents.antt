-- What an event says about a connection of a port.
use Rattle.std.specs.Prelude.{◌≡◌, ℕ}
use Rattle.scim_hub.specs.declared.owned_events.OwnedEventKind.{OwnedEventKind}
use Rattle.scim_hub.specs.declared.owned_events.OwnedEventKind.TheVariants as hub
use Rattle.scim_serve.specs.declared.peers.AdminEventKind.{AdminEventKind}
use Rattle.scim_serve.specs.declared.peers.AdminEventKind.TheVariants as admin
use Rattle.scim_serve.specs.declared.peers.PeerEvent.{PeerEvent}
use Rattle.scim_serve.specs.declared.peers.PeerEvent.TheVariants as peer
use Rattle.scim_sockets.specs.declared.poll_tokens.Role.{Role}
use Rattle.scim_sockets.specs.declared.poll_tokens.Role.TheVariants.{Client, Admin}

-- an event of a client's connection is of the same kind as one of the administrator's
abbrev pub IsSameKind : AdminEventKind → OwnedEventKind → Type 0
IsSameKind admin.Joined hub.Joined = Unit {0}
IsSameKind (admin.Piece bytes) (hub.Piece others) = others ≡ bytes
IsSameKind admin.Left hub.Left = Unit {0}
IsSameKind _ _ = ⊥

-- the event tells the server's loop that this happened on a client's connection n
abbrev pub TellsOfClient : ℕ → AdminEventKind → PeerEvent → Type 0
TellsOfClient n kind (peer.Event event) = (event.connection ≡ n) × IsSameKind kind event.kind
TellsOfClient n kind (peer.Ready m) = (m ≡ n) × (kind ≡ admin.Ready)
TellsOfClient n kind _ = ⊥

-- the event tells the server's loop that this happened on the administrator's connection n
abbrev pub TellsOfAdmin : ℕ → AdminEventKind → PeerEvent → Type 0
TellsOfAdmin n kind (peer.Admin event) = (event.connection ≡ n) × (event.kind ≡ kind)
TellsOfAdmin n kind _ = ⊥

-- the event tells the server's loop that this happened on connection n of the port of this role
abbrev pub Tells : Role → ℕ → AdminEventKind → PeerEvent → Type 0
Tells Client n kind event = TellsOfClient n kind event
Tells Admin n kind event = TellsOfAdmin n kind event

-- the event is one of connection n of the port of this role
abbrev pub IsOf : Role → ℕ → PeerEvent → Type 0
IsOf role n event = (kind : AdminEventKind) × Tells role n kind event
