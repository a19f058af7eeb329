use Rattle.std.proofs.Common.{◌≡◌}
use Rattle.std.specs.Prelude.{All}
use Rattle.scim_policy.specs.code.Inside.{KnowsNeeds}
use Rattle.scim_policy.proofs.ReadingRuleLemmas.{AreSelected}
use Rattle.scim_policy.proofs.rules.Policy.reading_rules.Given as goal

abbrev pub invariant-loop-rule : goal.invariant-loop-rule
invariant-loop-rule l =
    record {
      numbered : l.number ≡ l.rule-index;
      selected : AreSelected l.client l.kind l.rule-items l.rule-index l.rules.items;
      needs : All (KnowsNeeds l.kind) l.rules.items;
    }
