use Rattle.std.proofs.Common.{map}
use Rattle.std.specs.Prelude.{All}
use Rattle.scim_policy.specs.code.Inside.{reading_rule}
use Rattle.scim_policy.proofs.AskedLemmas.{IsTold}
use Rattle.scim_policy.proofs.ReadingRuleLemmas.{SelectedWalked}
use Rattle.scim_policy.proofs.reading_rules.ReadingRules.patterns.Given as goal

abbrev pub invariant-loop-numbered : goal.invariant-loop-numbered
invariant-loop-numbered l =
    record {
      told : All (IsTold l.resource l.asked) l.numbered-items;
      walked : SelectedWalked l.resource (map reading_rule l.numbered-items) l.numbered-index l.patterns;
    }
