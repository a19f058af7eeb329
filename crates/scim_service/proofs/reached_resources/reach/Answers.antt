use Rattle.std.proofs.Common.{◌≡◌, sym, ◌∙◌, ap}
use Rattle.scim_schema.specs.declared.Attribute.TheVariants.{Id}
use Rattle.scim_schema.specs.Units.{simple}
use Rattle.scim_policy.specs.declared.rules.Decision.{Decision}
use Rattle.scim_view.specs.View.{viewer_of, read_decision}
use Rattle.scim_service.proofs.CreationLemmas.{none_found}
use Rattle.scim_service.proofs.PlanLemmas.{id_read}
use Rattle.scim_service.proofs.ReplaceLemmas.{absent_is, hidden_is}
use Rattle.scim_service.proofs.reached_resources.reach.Goals as goal

pub returns-in_default-clause-answer : goal.returns-in_default-clause-answer
returns-in_default-clause-answer g c store stands honest base is next =
    let none = sym (none_found c.in_ok-resource.field-0 c.in_default.not-Some) ∙ c.in_ok-resource.ensures.answer store stands honest in
    c.in_ok-plan.ensures ∙ absent_is (viewer_of c.args.viewer.now) c.args.turn.now store.resources next none

pub returns-then-seen-clause-answer : goal.returns-then-seen-clause-answer
returns-then-seen-clause-answer g c store stands honest base is =
    let viewer = viewer_of c.args.viewer.now in
    let own = c.in-Some.resource in
    let decides : c.whole-seen.result ≡ read_decision viewer own (simple Id)
    = id_read c.read.result.now viewer own c.simple.result c.whole-seen.result c.whole-seen.ensures c.simple.ensures (λ l. c.read.ensures l ∙ c.in_ok-rights.ensures.reading l) in
    (sym c.in-Some.is ∙ c.in_ok-resource.ensures.answer store stands honest, ap (λ (d : Decision). d.allow) (sym decides) ∙ c.if-seen.true)

pub returns-clause-answer : goal.returns-clause-answer
returns-clause-answer g c store stands honest base is next =
    let viewer = viewer_of c.args.viewer.now in
    let own = c.in-Some.resource in
    let decides : c.whole-seen.result ≡ read_decision viewer own (simple Id)
    = id_read c.read.result.now viewer own c.simple.result c.whole-seen.result c.whole-seen.ensures c.simple.ensures (λ l. c.read.ensures l ∙ c.in_ok-rights.ensures.reading l) in
    c.in_ok-plan-2.ensures
    ∙ hidden_is viewer c.args.turn.now next own _ c.whole-seen.result decides c.if-seen.false (sym c.in-Some.is ∙ c.in_ok-resource.ensures.answer store stands honest)
