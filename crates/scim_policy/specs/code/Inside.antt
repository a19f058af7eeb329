-- How rules and policies are stored.
use Rattle.std.specs.Prelude.{◌≤◌, ◌<◌, ℕ, List, [], ◌∷◌, length, map, All, IfSome, ⊤}
use Rattle.scim_schema.specs.declared.Kind.{Kind}
use Rattle.scim_schema.specs.declared.limits.TheConstants.{MOST_RULES}
use Rattle.scim_policy.specs.declared.rules.Rule.TheInside.{Inside as RuleInside}
use Rattle.scim_policy.specs.declared.rules.Policy.TheInside.{Inside as PolicyInside}
use Rattle.scim_policy.specs.declared.reading_rules.ReadingRule.{ReadingRule}
use Rattle.scim_policy.specs.declared.reading_rules.ReadingRules.TheInside.{Inside as ReadingRulesInside}
use Rattle.scim_policy.specs.Rules.{Rule}
use Rattle.scim_policy.specs.code.Asked.{AreNeeded}

-- the specified rule that represents a stored rule
abbrev pub rule_of : RuleInside → Rule
rule_of r = record { allow = r.allow; clients = r.clients.items; ops = r.ops.items; kinds = r.kinds.items; targets = r.targets.items; paths = r.paths.items }

-- the invariant of a policy: it has at most 1,000 rules
abbrev pub IsSmall : PolicyInside → Type 0
IsSmall p = length p.rules.items ≤ MOST_RULES

-- the specified rule with its number that represents a selected rule
abbrev pub reading_rule : ReadingRule → ℕ × Rule
reading_rule r = (r.number, r.rule.now)

-- the specified rules that represent the selected rules
abbrev pub rules_of : ReadingRulesInside → List (ℕ × Rule)
rules_of r = map reading_rule r.rules.items

-- the numbers of the rules ascend, and all are greater than the given one
abbrev pub AreAbove : ℕ → List (ℕ × Rule) → Type 0
AreAbove n [] = ⊤
AreAbove n (r ∷ rs) = (n < r.0) × AreAbove r.0 rs

-- if texts are given with the rule, each resource of the kind that meets its target has one of them
abbrev pub KnowsNeeds : Kind → ReadingRule → Type 0
KnowsNeeds kind r = IfSome r.needed (λ texts. AreNeeded kind r.rule.now texts.items)

-- the invariant of selected rules: their numbers ascend, and their targets need the texts that are given with
-- them
pub record AreSelected (r : ReadingRulesInside) : Type 0 where
  pub ascending : AreAbove 0 (rules_of r)
  pub needs : All (KnowsNeeds r.kind) r.rules.items
