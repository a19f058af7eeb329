-- The tokens by which the system's reports name sockets.
use Rattle.std.specs.Prelude.{◌<◌, ◌-◌, ◌^◌, ℕ}
use Rattle.scim_sockets.specs.declared.poll_tokens.Role.{Role}
use Rattle.scim_sockets.specs.declared.poll_tokens.Role.TheVariants.{Client, Admin}
use Rattle.scim_sockets.specs.declared.poll_tokens.Place.{Place}
use Rattle.scim_sockets.specs.declared.poll_tokens.Place.TheVariants.{Door, Connection}

-- the number of a connection is below that of the listener
abbrev pub IsShort : Place → Type 0
IsShort Door = Unit {0}
IsShort (Connection number) = number < 2 ^ 63 - 1

-- the number of a connection; that of the listener is greater than all
abbrev pub number_of : Place → ℕ
number_of Door = 2 ^ 63 - 1
number_of (Connection number) = number

-- 0 for clients, 1 for the administrator
abbrev pub bit_of : Role → ℕ
bit_of Client = 0
bit_of Admin = 1
