use Rattle.std.proofs.Common.{◌∙◌, sym, ap, List}
use Rattle.scim_schema.specs.declared.Leaf.{Leaf}
use Rattle.scim_policy.specs.Rules.{Rule}
use Rattle.scim_policy.specs.Decide.{decide}
use Rattle.scim_policy.specs.Table.{decided}
use Rattle.scim_policy.proofs.RuleLemmas.{all_decide, decide_other}
use Rattle.scim_policy.proofs.rules.Policy.decisions.Goals as goal

pub returns : goal.returns
returns c l =
    all_decide c.add_rules.new.self c.args.client.now c.args.op c.args.resource.now c.listed.result.now (λ (m : Leaf). decided c.none-decisions.result m) c.none-decisions.ensures c.in_ok-add_rules.ensures l
    ∙ sym (decide_other c.listed.result.now c.args.client.now c.args.op c.args.resource.now l c.requires)
    ∙ ap (λ (rs : List Rule). decide rs c.args.client.now c.args.op c.args.resource.now l) c.listed.ensures.rules
