use Rattle.std.proofs.Common.{◌≡◌}
use Rattle.scim_patch_steps.specs.code.Groups.{joined}
use Rattle.scim_patch_steps.proofs.unit_rows.joined.Given as goal

-- the rows of the groups so far
abbrev pub invariant-loop-group : goal.invariant-loop-group
invariant-loop-group l = l.rows.items ≡ joined l.yielded
