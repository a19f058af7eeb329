use Rattle.std.proofs.Common.{◌≡◌}
use Rattle.scim_policy.proofs.PatternLemmas.{AllWalked}
use Rattle.scim_policy.proofs.rules.Policy.patterns_on_all.Given as goal

abbrev pub invariant-loop-rule : goal.invariant-loop-rule
invariant-loop-rule l =
    record {
      numbered : l.number ≡ l.rule-index;
      walked : AllWalked l.client l.kind l.rule-items l.rule-index l.patterns;
    }
