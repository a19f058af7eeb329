-- The state of a connection: the bytes that its turn read, and how many of the offered bytes it took. A turn
-- is one unit of the connection's work.
use Rattle.std.specs.Prelude.{◌≡◌, ◌≤◌, ◌+◌, ◌-◌, ◌*◌, ◌^◌, ◌⊎◌, ℕ, true, None, List, length, min, vec_len}
use Rattle.scim_sockets.specs.declared.connection.Connection.{Connection}
use Rattle.scim_sockets.specs.declared.connection.Taking.{Taking}
use Rattle.scim_sockets.specs.declared.connection.Taking.TheVariants.{All}
use Rattle.scim_sockets.specs.declared.connection.Turn.{Turn}
use Rattle.scim_sockets.specs.declared.connection.Turn.TheVariants.{Nothing, Read, Piece, Ready, Left}
use Rattle.scim_sockets.specs.declared.pieces.Part.TheVariants.{Between}

-- fewer bytes were taken than offered
abbrev pub IsLess : Taking → Type 0
IsLess All = ⊥
IsLess _ = Unit {0}

-- the connection has taken fewer bytes than it was last offered
abbrev pub IsBehind : Connection → Type 0
IsBehind connection = IsLess connection.taking

-- the connection was asked to report its next turn
abbrev pub IsAsked : Connection → Type 0
IsAsked connection = connection.is_asked ≡ true

-- the connection has taken all bytes that it was offered, no message has begun, and nothing is held
pub record IsAtRest (connection : Connection) : Type 0 where
  pub taking : connection.taking ≡ All
  pub part : connection.scan.part ≡ Between
  pub held : connection.held.start ≡ vec_len connection.held.bytes

-- the connection takes no more bytes: its socket is dropped, or it was shut
abbrev pub TakesNothing : Connection → Type 0
TakesNothing connection = (connection.stream ≡ None) ⊎ (connection.is_shut ≡ true)

-- the weight of a connection: twice the bytes of its message in hand, and the bytes of its reply
abbrev pub weight_of : Connection → ℕ
weight_of connection = 2 * connection.handed + connection.owed

-- the turn read no bytes, and handed on none
abbrev pub IsUnread : Turn → Type 0
IsUnread (Read _) = ⊥
IsUnread (Piece _) = ⊥
IsUnread _ = Unit {0}

-- the bytes that the turn read or handed on are within the buffer
abbrev pub FitsIn : List ℕ → Turn → Type 0
FitsIn buffer (Read count) = count ≤ length buffer
FitsIn buffer (Piece count) = count ≤ length buffer
FitsIn buffer _ = Unit {0}

-- a number of bytes in 32 bits: the greatest such number if it doesn't fit
abbrev pub clipped : ℕ → ℕ
clipped count = min count (2 ^ 32 - 1)

-- how many bytes were handed on since the last reply, before and after a turn: a piece counts in full
abbrev pub CountsPiece : ℕ → ℕ → Turn → Type 0
CountsPiece handed handed_then (Piece count) = handed_then ≡ clipped (handed + count)
CountsPiece handed handed_then Left = Unit {0}
CountsPiece handed handed_then _ = handed_then ≡ handed

-- the turn did nothing, or reported that the connection may take more bytes
abbrev pub IsQuiet : Turn → Type 0
IsQuiet Nothing = Unit {0}
IsQuiet Ready = Unit {0}
IsQuiet _ = ⊥

-- a connection that is behind stays so: its socket isn't read, and nothing that it holds is handed on
pub record StaysBehind (old new : Connection) : Type 0 where
  pub behind : IsBehind new
  pub stream : new.stream ≡ old.stream
  pub held : new.held ≡ old.held
  pub scan : new.scan ≡ old.scan

-- no reply was begun, and no message ended
pub record ContinuesReply (old new : Connection) : Type 0 where
  pub replied : new.replied ≡ old.replied
  pub began : new.began ≡ old.began
  pub scan : new.scan ≡ old.scan

-- the length of the reply that a connection hasn't taken whole after it was offered this many bytes: the length
-- of its first offer
abbrev pub owed_after : Taking → ℕ → ℕ → ℕ
owed_after All owed offered = clipped offered
owed_after _ owed offered = owed
