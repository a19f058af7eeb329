-- The ports of the clients and of the administrator.
use Rattle.scim_sockets.specs.declared.open_connections.Open.{Open}
use Rattle.scim_sockets.specs.declared.poll_tokens.Role.{Role}
use Rattle.scim_sockets.specs.declared.poll_tokens.Role.TheVariants.{Client, Admin}
use Rattle.scim_sockets.specs.declared.ports.Ports.{Ports}

-- the open connections of the port of this role
abbrev pub connections_of : Role → Ports → Open
connections_of Client ports = ports.clients.turns.connections
connections_of Admin ports = ports.admins.turns.connections
