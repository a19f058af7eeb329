use Rattle.std.proofs.Common.{ap, ◌∙◌, subst, List}
use Rattle.std.specs.Prelude.{Option}
use Rattle.scim_schema.specs.declared.Leaf.{Leaf}
use Rattle.scim_schema.specs.declared.Attribute.TheVariants.{Id}
use Rattle.scim_schema.specs.Units.{simple}
use Rattle.scim_policy.specs.declared.rules.Decision.{Decision}
use Rattle.scim_policy.specs.PatternTable.{access_in, rules_in}
use Rattle.scim_policy.specs.Patterns.{PatternRule, decisions_of, whole_decision}
use Rattle.scim_view.specs.View.{viewer_of}
use Rattle.scim_service.specs.declared.plans.Plan.{Plan}
use Rattle.scim_service.specs.code.Refusals.{IsRefusalToChange}
use Rattle.scim_service.proofs.CreationLemmas.{none_found}
use Rattle.scim_service.proofs.ReplaceLemmas.{changed_is}
use Rattle.scim_service.proofs.changed_resources.plan_changed.Goals as goal

pub returns-in-Some-clause-plan : goal.returns-in-Some-clause-plan
returns-in-Some-clause-plan g c store stands honest base is own_kind =
    let refusal = c.in_ok-refusal.ensures.refusal store stands honest base is in
    let told = subst (λ (it : Option Plan). IsRefusalToChange (viewer_of c.args.viewer.now) c.args.turn.now store.resources (access_in c.args.rights.now) c.args.changed.resource it) c.in-Some.is refusal in
    told c.args.wanted.now c.args.changed.changed

pub returns-clause-plan : goal.returns-clause-plan
returns-clause-plan g c store stands honest base is own_kind =
    let cs = store.resources in
    let own = c.args.changed.resource in
    let viewer = viewer_of c.args.viewer.now in
    let before = access_in c.args.rights.now in
    let earlier = c.in_ok-text.ensures.read.honest honest in
    let refusal = c.in_ok-refusal.ensures.refusal store stands earlier base is in
    let free = subst (λ (it : Option Plan). IsRefusalToChange viewer c.args.turn.now cs before own it) (none_found c.in_ok-refusal.refusal c.in_default.not-Some) refusal in
    let rule = ap (λ (d : Decision). d.rule)
    (c.whole-rule.ensures ∙ ap (λ (l : Leaf). whole_decision (decisions_of (rules_in c.read-2.result.now l))) c.simple.ensures
    ∙ ap (λ (rs : List PatternRule). whole_decision (decisions_of rs)) (c.read-2.ensures (simple Id))) in
    let text = c.in_ok-text.ensures.text store (c.in_ok-refusal.ensures.read.store store stands) honest base is own_kind in
    c.in_ok-changed_with.ensures
    ∙ changed_is viewer c.args.turn.now cs c.args.wanted.now before c.args.changed.changed own c.whole-rule.result.rule c.in_ok-text.text free.0 free.1 rule text
