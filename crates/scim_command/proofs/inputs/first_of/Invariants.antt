use Rattle.std.proofs.Common.{All}
use Rattle.scim_command.specs.Inputs.{IsContinue}
use Rattle.scim_command.proofs.inputs.first_of.Given as goal

-- nothing so far is answered
abbrev pub invariant-loop-item : goal.invariant-loop-item
invariant-loop-item l = All IsContinue l.yielded
