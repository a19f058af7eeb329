use Rattle.std.proofs.Common.{◌≡◌}
use Rattle.std.specs.Prelude.{map}
use Rattle.scim_patch_steps.specs.Steps.{beside_chosen}
use Rattle.scim_patch_steps.proofs.primary_values.demote_others.Given as goal

abbrev pub invariant-loop-position : goal.invariant-loop-position
invariant-loop-position l = l.values.items ≡ map beside_chosen l.yielded
