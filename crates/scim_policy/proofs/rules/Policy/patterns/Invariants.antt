use Rattle.std.proofs.Common.{◌≡◌}
use Rattle.scim_policy.proofs.PatternLemmas.{PolicyWalked}
use Rattle.scim_policy.proofs.rules.Policy.patterns.Given as goal

abbrev pub invariant-loop-rule : goal.invariant-loop-rule
invariant-loop-rule l =
    record {
      numbered : l.number ≡ l.rule-index;
      walked : PolicyWalked l.client l.resource l.rule-items l.rule-index l.patterns;
    }
