use Rattle.std.proofs.Common.{ℕ, List, All}
use Rattle.std.specs.Io.KnownBytes.{Consumes}
use Rattle.scim_wire.specs.declared.messages.Item.{Item}
use Rattle.scim_wire.specs.Wires.{StandsFor}
use Rattle.scim_command.specs.Inputs.{IsContinue}
use Rattle.scim_command.proofs.inputs.first_through.Given as goal

-- the wire stands for what was read so far, and gave nothing that is answered
abbrev pub invariant-loop : goal.invariant-loop
invariant-loop g l =
    let remaining = g.R.Read.remaining in
    (bytes : List ℕ) × (waits : List Item)
    × StandsFor l.wire bytes waits × All IsContinue waits × Consumes (remaining l.fn.reader) (remaining l.reader) bytes
