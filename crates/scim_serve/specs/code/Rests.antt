-- What is pending for a connection.
use Rattle.std.specs.Prelude.{ℕ, Bool, true, false, List, [], ◌++◌, drop}

-- the bytes that a connection has still to take, and whether it is to be closed after them
pub record Rest : Type 0 where
  pub bytes : List ℕ
  pub closing : Bool

-- no bytes are pending, and the connection isn't to be closed
abbrev pub no_rest : Rest
no_rest = record { bytes = []; closing = false }

-- no bytes are pending, and the connection is to be closed
abbrev pub finished : Rest
finished = record { bytes = []; closing = true }

-- the rest with more bytes at the end
abbrev pub with_more : List ℕ → Rest → Rest
with_more more rest = record rest { bytes = rest.bytes ++ more }

-- the rest without its first `count` bytes
abbrev pub without : ℕ → Rest → Rest
without count rest = record rest { bytes = drop count rest.bytes }

-- the rest of a connection that is to be closed after it
abbrev pub to_close : Rest → Rest
to_close rest = record rest { closing = true }
