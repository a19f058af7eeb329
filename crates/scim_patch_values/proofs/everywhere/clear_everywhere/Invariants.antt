use Rattle.std.proofs.Common.{◌≡◌}
use Rattle.std.specs.Prelude.{map}
use Rattle.scim_patch_values.specs.Fields.{row_without}
use Rattle.scim_patch_values.proofs.everywhere.clear_everywhere.Given as goal

abbrev pub invariant-loop-value : goal.invariant-loop-value
invariant-loop-value l = l.left.items ≡ map (row_without l.leaf) l.yielded
