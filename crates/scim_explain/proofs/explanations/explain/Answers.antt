use Rattle.std.proofs.Common.{◌≡◌, sym, subst, ◌∙◌, ap, ℕ, ◌+◌, List, arith}
use Rattle.scim_policy.specs.Rules.{Rule}
use Rattle.scim_explain.specs.Explain.{explained}
use Rattle.scim_explain.proofs.ExplainLemmas.{Comes, ends, ends_at, goes_on, told_policy}
use Rattle.scim_explain.proofs.explanations.explain.Goals as goal

pub returns-in-None : goal.returns-in-None
returns-in-None c =
    let rules = c.listed-rule-items.result.now in
    let client = c.args.client.now in
    let resource = c.args.resource.now in
    let allow = c.allows.result in
    let done = c.loop-rule.entries.items in
    let all : explained rules client c.args.op resource c.args.leaf ≡ record { entries = done; decision = record { rule = c.loop-rule.rule-index + 1; allow = c.rule-item.result.allow } } =
    sym (told_policy rules client c.args.op resource c.args.leaf)
    ∙ ends_at client c.args.op resource c.args.leaf rules c.loop-rule.rule-index done c.rule-item.result c.loop-rule-test.true c.rule-item.is (sym c.in_ok-entry.ensures ∙ c.in-None.is) c.loop-rule.invariant.comes in
    (λ i. record { entries = done; decision = record { rule = c.loop-rule.invariant.numbered i + 1; allow = c.allows.ensures i } })
    ∙ sym all
    ∙ ap (λ (rs : List Rule). explained rs client c.args.op resource c.args.leaf) c.listed-rule-items.ensures.rules

pub loop-rule-preserved : goal.loop-rule-preserved
loop-rule-preserved c =
    let come = goes_on c.args.client.now c.args.op c.args.resource.now c.args.leaf c.listed-rule-items.result.now c.loop-rule.rule-index c.loop-rule.entries.items c.rule-item.result c.in-Some.entry
    c.loop-rule-test.true c.rule-item.is (sym c.in_ok-entry.ensures ∙ c.in-Some.is) c.loop-rule.invariant.comes in
    record {
      numbered = ap (λ (n : ℕ). n + 1) c.loop-rule.invariant.numbered;
      few = c.loop-rule.invariant.few;
      comes = subst (Comes c.args.client.now c.args.op c.args.resource.now c.args.leaf c.listed-rule-items.result.now (c.loop-rule.rule-index + 1)) (sym c.in_ok-push-in-Some.ensures.items) come;
    }

pub returns : goal.returns
returns c =
    let rules = c.listed-rule-items.result.now in
    let client = c.args.client.now in
    let resource = c.args.resource.now in
    sym (ends client c.args.op resource c.args.leaf rules c.loop-rule.rule-index c.loop-rule.entries.items (omega arith) c.loop-rule.invariant.comes)
    ∙ told_policy rules client c.args.op resource c.args.leaf
    ∙ ap (λ (rs : List Rule). explained rs client c.args.op resource c.args.leaf) c.listed-rule-items.ensures.rules
