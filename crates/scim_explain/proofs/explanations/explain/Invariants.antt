use Rattle.std.proofs.Common.{◌≡◌, ◌≤◌, length}
use Rattle.scim_explain.proofs.ExplainLemmas.{Comes}
use Rattle.scim_explain.proofs.explanations.explain.Given as goal

-- the entries so far, and the explanation by the rules from this one on, are the explanation by all rules
abbrev pub invariant-loop-rule : goal.invariant-loop-rule
invariant-loop-rule l =
    record {
      numbered : l.number ≡ l.rule-index;
      few : length l.rule-items ≤ 1000;
      comes : Comes l.client l.op l.resource l.leaf l.rule-items l.rule-index l.entries.items;
    }
