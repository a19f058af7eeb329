use Rattle.std.proofs.Common.{◌≡◌}
use Rattle.std.specs.Prelude.{map}
use Rattle.scim_patch_values.specs.Matches.{set_over}
use Rattle.scim_patch_values.proofs.everywhere.set_each.Given as goal

abbrev pub invariant-loop-value : goal.invariant-loop-value
invariant-loop-value l = l.positions.items ≡ map (set_over l.given) l.yielded
