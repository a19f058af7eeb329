use Rattle.std.proofs.Common.{◌∙◌, refl, sym, ap, subst, ℕ, ◌+◌, List}
use Rattle.scim_policy.specs.Rules.{Rule}
use Rattle.scim_policy.proofs.AccessLemmas.{RightsWalked, AreRights, rights_start, rights_rule, rights_whole, rights_end}
use Rattle.scim_policy.proofs.rules.Policy.rights.Goals as goal

pub loop-rule-init : goal.loop-rule-init
loop-rule-init c =
    record {
      numbered = refl;
      walked = rights_start c.args.client.now c.args.resource.now c.listed-rule-items.result.now c.none-rights.result
          c.none-rights.ensures.last c.none-rights.ensures.partial c.none-rights.ensures.modify c.none-rights.ensures.delete;
    }

pub loop-rule-preserved : goal.loop-rule-preserved
loop-rule-preserved c =
    record {
      numbered = ap (λ (n : ℕ). n + 1) c.loop-rule.invariant.numbered;
      walked = rights_rule c.args.client.now c.args.resource.now c.listed-rule-items.result.now c.loop-rule.rule-index c.loop-rule.number c.rule-item.result c.loop-rule.rights c.add_rule.new.self
          c.loop-rule-test.true c.rule-item.is c.loop-rule.invariant.numbered c.in_ok-add_rule.ensures.read c.in_ok-add_rule.ensures.modify c.in_ok-add_rule.ensures.delete c.loop-rule.invariant.walked;
    }

pub returns-then-is_complete : goal.returns-then-is_complete
returns-then-is_complete c =
    let client = c.args.client.now in
    let resource = c.args.resource.now in
    let rules = c.listed-rule-items.result.now in
    let i = c.loop-rule.rule-index in
    let walked : RightsWalked client resource rules (i + 1) c.add_rule.new.self =
    rights_rule client resource rules i c.loop-rule.number c.rule-item.result c.loop-rule.rights c.add_rule.new.self
    c.loop-rule-test.true c.rule-item.is c.loop-rule.invariant.numbered c.in_ok-add_rule.ensures.read c.in_ok-add_rule.ensures.modify c.in_ok-add_rule.ensures.delete c.loop-rule.invariant.walked in
    let all : AreRights client resource c.args.self.now c.add_rule.new.self =
    subst (λ (rs : List Rule). AreRights client resource rs c.add_rule.new.self) c.listed-rule-items.ensures.rules
    (rights_whole client resource rules (i + 1) c.add_rule.new.self (sym c.is_complete.ensures ∙ c.if-is_complete.true) walked) in
    record { access = all.access; reading = all.reading }

pub returns : goal.returns
returns c =
    let client = c.args.client.now in
    let resource = c.args.resource.now in
    let rules = c.listed-rule-items.result.now in
    let all : AreRights client resource c.args.self.now c.loop-rule.rights =
    subst (λ (rs : List Rule). AreRights client resource rs c.loop-rule.rights) c.listed-rule-items.ensures.rules
    (rights_end client resource rules c.loop-rule.rule-index c.loop-rule.rights c.loop-rule-test.false c.loop-rule.invariant.walked) in
    record { access = all.access; reading = all.reading }
