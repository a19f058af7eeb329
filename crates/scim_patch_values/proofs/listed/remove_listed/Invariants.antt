use Rattle.std.proofs.Common.{◌≡◌}
use Rattle.std.specs.Prelude.{filter, not}
use Rattle.scim_patch_values.specs.Matches.{is_listed}
use Rattle.scim_patch_values.proofs.listed.remove_listed.Given as goal

abbrev pub invariant-loop-value : goal.invariant-loop-value
invariant-loop-value l = l.left.items ≡ filter (λ value. not (is_listed l.texts value)) l.yielded
