use Rattle.std.proofs.Common.{◌∙◌, sym, ap, List}
use Rattle.scim_policy.specs.Patterns.{PatternRule, decisions_of, whole_decision}
use Rattle.scim_policy.proofs.RuleLemmas.{decide_reading}
use Rattle.scim_policy.proofs.rules.Policy.decide.Goals as goal

pub returns-then-eq : goal.returns-then-eq
returns-then-eq c =
    c.whole.ensures
    ∙ ap (λ (rs : List PatternRule). whole_decision (decisions_of rs)) (c.in_ok-patterns.ensures c.args.leaf)
    ∙ sym (decide_reading c.args.self.now c.args.client.now c.args.op c.args.resource.now c.args.leaf (sym c.eq.ensures ∙ c.if-eq.true))
