use Rattle.std.proofs.Common.{◌≡◌, map, take}
use Rattle.httparse.specs.Spans.{header_bytes}
use Rattle.scim_wire.specs.Headers.{header_parts}
use Rattle.scim_wire.proofs.head_parsing.headers_at.Given as goal

abbrev pub invariant-loop-span : goal.invariant-loop-span
invariant-loop-span l =
    map header_parts l.headers.items ≡ map (header_bytes l.text) (take l.span-index l.spans)
