use Rattle.std.proofs.Common.{◌≡◌, take}
use Rattle.scim_wire.specs.Parts.{feeds}
use Rattle.scim_wire.proofs.head_steps.line_length.Given as goal

abbrev pub invariant-loop-i : goal.invariant-loop-i
invariant-loop-i l = feeds (take l.i l.bytes) ≡ 0
