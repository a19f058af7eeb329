use Rattle.std.proofs.Common.{◌≡◌}
use Rattle.std.specs.Prelude.{map}
use Rattle.scim_patch_values.specs.declared.positions.Position.{Position}
use Rattle.scim_patch_steps.proofs.primary_values.values_of.Given as goal

abbrev pub invariant-loop-position : goal.invariant-loop-position
invariant-loop-position l = l.values.items ≡ map (λ (p : Position). p.value) l.yielded
