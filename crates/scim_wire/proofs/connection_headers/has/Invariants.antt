use Rattle.std.proofs.Common.{◌≡◌, map, drop}
use Rattle.scim_wire.specs.Headers.{header_parts}
use Rattle.scim_wire.specs.Options.{has}
use Rattle.scim_wire.proofs.connection_headers.has.Given as goal

abbrev pub invariant-loop-header : goal.invariant-loop-header
invariant-loop-header l =
    has l.name l.value (map header_parts (drop l.header-index l.headers)) ≡ has l.name l.value (map header_parts l.headers)
