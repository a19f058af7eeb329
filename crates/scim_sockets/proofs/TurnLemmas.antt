-- Turns in which nothing was read.
use Rattle.std.specs.Prelude.{ℕ, List}
use Rattle.scim_sockets.specs.declared.connection.Turn.{Turn}
use Rattle.scim_sockets.specs.declared.connection.Turn.TheVariants.{Nothing, Read, Piece, Ready, Left}
use Rattle.scim_sockets.specs.Connections.{IsUnread, FitsIn}

-- what wasn't read stands in any buffer
pub unread_fits : (buffer : List ℕ) (turn : Turn) → IsUnread turn → FitsIn buffer turn
unread_fits buffer Nothing is = tt
unread_fits buffer (Read count) is = absurd is
unread_fits buffer (Piece count) is = absurd is
unread_fits buffer Ready is = tt
unread_fits buffer Left is = tt
