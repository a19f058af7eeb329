-- The clients in the lines of a token file, as the code finds them.
use Rattle.std.specs.Prelude.{ℕ, ◌==◌, List, length, Option, None, Some, if◌then◌else◌}
use Rattle.std.specs.List.{before_first, position_or_len}
use Rattle.scim_token.specs.TokenFile.{is_space, says_nothing}

-- the text before the first space of a line; None without a space
abbrev pub before_space : List ℕ → Option (List ℕ)
before_space line = if position_or_len is_space line == length line then None else Some (before_first is_space line)

-- the client in a line; None if it is empty, a comment or without a space
abbrev pub client_in : List ℕ → Option (List ℕ)
client_in line = if says_nothing line then None else before_space line
