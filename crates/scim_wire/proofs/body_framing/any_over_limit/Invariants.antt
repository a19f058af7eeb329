use Rattle.std.proofs.Common.{◌≡◌, drop}
use Rattle.std.specs.List.{list_any}
use Rattle.scim_wire.specs.Headers.{texts}
use Rattle.scim_wire.specs.Framings.{is_over_limit}
use Rattle.scim_wire.proofs.body_framing.any_over_limit.Given as goal

abbrev pub invariant-loop-length : goal.invariant-loop-length
invariant-loop-length l =
    list_any is_over_limit (texts (drop l.length-index l.lengths)) ≡ list_any is_over_limit (texts l.lengths)
