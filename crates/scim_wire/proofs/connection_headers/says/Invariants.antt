use Rattle.std.proofs.Common.{◌≡◌, map, drop}
use Rattle.scim_wire.specs.Headers.{header_parts}
use Rattle.scim_wire.specs.Options.{says}
use Rattle.scim_wire.proofs.connection_headers.says.Given as goal

abbrev pub invariant-loop-header : goal.invariant-loop-header
invariant-loop-header l =
    says l.name l.option (map header_parts (drop l.header-index l.headers)) ≡ says l.name l.option (map header_parts l.headers)
