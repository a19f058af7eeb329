use Rattle.std.proofs.Common.{◌≡◌}
use Rattle.std.specs.Prelude.{filter}
use Rattle.scim_cell.specs.Rows.{has_fields}
use Rattle.scim_patch_values.specs.declared.positions.Position.{Position}
use Rattle.scim_patch_steps.proofs.primary_values.close_up.Given as goal

abbrev pub invariant-loop-position : goal.invariant-loop-position
invariant-loop-position l = l.left.items ≡ filter (λ (p : Position). has_fields p.value) l.yielded
