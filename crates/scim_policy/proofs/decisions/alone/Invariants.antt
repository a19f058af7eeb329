use Rattle.std.proofs.Common.{◌≡◌, drop}
use Rattle.scim_policy.specs.Table.{at_sub_attribute}
use Rattle.scim_policy.proofs.decisions.alone.Given as goal

abbrev pub invariant-loop-pair : goal.invariant-loop-pair
invariant-loop-pair l = at_sub_attribute l.sub_attribute l.pairs ≡ at_sub_attribute l.sub_attribute (drop l.pair-index l.pairs)
