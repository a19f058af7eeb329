use Rattle.std.proofs.Common.{◌≡◌}
use Rattle.std.specs.Prelude.{map}
use Rattle.scim_patch_values.specs.Matches.{kept}
use Rattle.scim_patch_values.proofs.positions.keep.Given as goal

abbrev pub invariant-loop-value : goal.invariant-loop-value
invariant-loop-value l = l.positions.items ≡ map kept l.yielded
