use Rattle.std.proofs.Common.{◌≡◌, map, drop}
use Rattle.scim_admin_text.specs.Parameters.{pair_of, value_of}
use Rattle.scim_admin_text.proofs.parameters.Parameters.value.Given as goal

abbrev pub invariant-loop-parameter : goal.invariant-loop-parameter
invariant-loop-parameter l = value_of l.name (map pair_of (drop l.parameter-index l.parameter-items)) ≡ value_of l.name (map pair_of l.parameter-items)
