use Rattle.std.proofs.Common.{◌≡◌}
use Rattle.scim_policy.proofs.AccessLemmas.{RightsWalked}
use Rattle.scim_policy.proofs.rules.Policy.rights.Given as goal

abbrev pub invariant-loop-rule : goal.invariant-loop-rule
invariant-loop-rule l =
    record {
      numbered : l.number ≡ l.rule-index;
      walked : RightsWalked l.client l.resource l.rule-items l.rule-index l.rights;
    }
