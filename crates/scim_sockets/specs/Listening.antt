-- Where the server listens, which connections join, and when all is over.
use Rattle.std.specs.Prelude.{◌≡◌, ◌≤◌, ◌⊎◌, ℕ, Bool, true, Option, None, Some, [], ◌∷◌}
use Rattle.std.specs.BTreeMap.{btree_map_len}
use Rattle.std.specs.Net.Addr.{ipv4_octets}
use Rattle.std.specs.Net.Socket.{v4_ip, v4_port}
use Rattle.std.specs.declared.net.socket_addr.SocketAddr.{SocketAddr}
use Rattle.std.specs.declared.net.socket_addr.SocketAddr.TheVariants.{V4, V6}
use Rattle.scim_serve.specs.declared.peers.AdminEventKind.TheVariants.{Joined}
use Rattle.scim_serve.specs.declared.peers.PeerEvent.{PeerEvent}
use Rattle.scim_sockets.specs.declared.open_connections.Open.{Open}
use Rattle.scim_sockets.specs.declared.poll_tokens.Role.{Role}
use Rattle.scim_sockets.specs.OpenConnections.{connection_at}
use Rattle.scim_sockets.specs.PeerEvents.{Tells}

-- 127.0.0.1 with this port
abbrev pub IsLoopback : ℕ → SocketAddr → Type 0
IsLoopback port (V4 address) = (ipv4_octets (v4_ip address) ≡ 127 ∷ 0 ∷ 0 ∷ 1 ∷ []) × (v4_port address ≡ port)
IsLoopback port (V6 address) = ⊥

-- n is the next number, which no open connection had
abbrev pub IsNextOf : Open → ℕ → Type 0
IsNextOf connections n = (n ≡ connections.next) × (connection_at connections.by_number n ≡ None)

-- a connection of the port of this role joins with the next number, which no open connection had
abbrev pub Joins : Role → Open → PeerEvent → Type 0
Joins role connections event = Tells role connections.next Joined event × (connection_at connections.by_number connections.next ≡ None)

-- the number of connections is limited, and at least the maximum number were accepted
abbrev pub AreAccepted : Option ℕ → ℕ → Type 0
AreAccepted None accepted = ⊥
AreAccepted (Some most) accepted = most ≤ accepted

-- the server was told to stop, or at least the maximum number of connections of clients were accepted; and no
-- connection is open
pub record IsOver (is_stopped : Bool) (most : Option ℕ) (clients admins : Open) : Type 0 where
  pub cause : (is_stopped ≡ true) ⊎ AreAccepted most clients.next
  pub no_client : btree_map_len clients.by_number ≡ 0
  pub no_admin : btree_map_len admins.by_number ≡ 0
