use Rattle.std.proofs.Common.{◌≡◌, map, ◌++◌, drop}
use Rattle.scim_wire.specs.Headers.{header_parts, values_named}
use Rattle.scim_wire.proofs.headers.values_named.Given as goal

abbrev pub invariant-loop-header : goal.invariant-loop-header
invariant-loop-header l =
    map (λ r. r.now) l.values.items ++ values_named l.name (map header_parts (drop l.header-index l.headers))
    ≡ values_named l.name (map header_parts l.headers)
