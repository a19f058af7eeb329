use Rattle.std.proofs.Common.{◌≡◌, sym, ap, ◌∙◌, ◌+◌, true, false, List, drop}
use Rattle.std.proofs.lemmas.List.{drop_all}
use Rattle.scim_policy.specs.Rules.{Rule}
use Rattle.scim_policy_warnings.specs.declared.possibilities.Extent.{Extent}
use Rattle.scim_policy_warnings.specs.MayAllow.{allows, denies, may_allow, other}
use Rattle.scim_policy_warnings.proofs.PossibilityLemmas.{first_allows, first_denies, first_passes, none_allows, stands_first}
use Rattle.scim_policy_warnings.proofs.possibilities.may_allow.Goals as goal

pub returns-then-denies : goal.returns-then-denies
returns-then-denies c =
    let a = c.args in
    let r = c.rule-item.result in
    let denied : denies (other a.extent) a.client.now a.op a.kind a.leaf r ≡ true = ap (λ (e : Extent). denies e a.client.now a.op a.kind a.leaf r) (sym c.other.ensures) ∙ sym c.denies.ensures ∙ c.if-denies.true in
    sym (first_denies a.extent a.client.now a.op a.kind a.leaf r (drop (c.loop-rule.rule-index + 1) a.rules.now) denied)
    ∙ sym (stands_first a.extent a.client.now a.op a.kind a.leaf a.rules.now c.loop-rule.rule-index r c.loop-rule-test.true c.rule-item.is)
    ∙ c.loop-rule.invariant

pub returns-then-allows : goal.returns-then-allows
returns-then-allows c =
    let a = c.args in
    let r = c.rule-item.result in
    let apart : denies (other a.extent) a.client.now a.op a.kind a.leaf r ≡ false = ap (λ (e : Extent). denies e a.client.now a.op a.kind a.leaf r) (sym c.other.ensures) ∙ sym c.denies.ensures ∙ c.if-denies.false in
    let allowed : allows a.extent a.client.now a.op a.kind a.leaf r ≡ true = sym c.allows.ensures ∙ c.if-allows.true in
    sym (first_allows a.extent a.client.now a.op a.kind a.leaf r (drop (c.loop-rule.rule-index + 1) a.rules.now) apart allowed)
    ∙ sym (stands_first a.extent a.client.now a.op a.kind a.leaf a.rules.now c.loop-rule.rule-index r c.loop-rule-test.true c.rule-item.is)
    ∙ c.loop-rule.invariant

pub loop-rule-preserved : goal.loop-rule-preserved
loop-rule-preserved c =
    let a = c.args in
    let r = c.rule-item.result in
    let apart : denies (other a.extent) a.client.now a.op a.kind a.leaf r ≡ false = ap (λ (e : Extent). denies e a.client.now a.op a.kind a.leaf r) (sym c.other.ensures) ∙ sym c.denies.ensures ∙ c.if-denies.false in
    let silent : allows a.extent a.client.now a.op a.kind a.leaf r ≡ false = sym c.allows.ensures ∙ c.if-allows.false in
    sym (first_passes a.extent a.client.now a.op a.kind a.leaf r (drop (c.loop-rule.rule-index + 1) a.rules.now) apart silent)
    ∙ sym (stands_first a.extent a.client.now a.op a.kind a.leaf a.rules.now c.loop-rule.rule-index r c.loop-rule-test.true c.rule-item.is)
    ∙ c.loop-rule.invariant

pub returns : goal.returns
returns c =
    let a = c.args in
    sym (none_allows a.extent a.client.now a.op a.kind a.leaf)
    ∙ sym (ap (λ (rs : List Rule). may_allow a.extent rs a.client.now a.op a.kind a.leaf) (drop_all c.loop-rule.rule-index a.rules.now c.loop-rule-test.false))
    ∙ c.loop-rule.invariant
