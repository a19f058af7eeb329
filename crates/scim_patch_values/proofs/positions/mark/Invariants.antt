use Rattle.std.proofs.Common.{◌≡◌}
use Rattle.std.specs.Prelude.{map}
use Rattle.scim_patch_values.specs.Matches.{marked}
use Rattle.scim_patch_values.proofs.positions.mark.Given as goal

abbrev pub invariant-loop-value : goal.invariant-loop-value
invariant-loop-value l = l.positions.items ≡ map (marked l.attribute l.primary) l.yielded
