use Rattle.scim_policy_file.specs.Targets.{target_on}
use Rattle.scim_policy_file.proofs.ListLemmas.{IsMadeOf}
use Rattle.scim_policy_file.proofs.rule_targets.targets_on.Given as goal

-- the targets so far are those on the kinds before this one
abbrev pub invariant-loop-kind : goal.invariant-loop-kind
invariant-loop-kind l = IsMadeOf (target_on l.text) l.targets.items l.kind-index l.kinds
