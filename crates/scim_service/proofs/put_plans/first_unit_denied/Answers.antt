use Rattle.std.proofs.Common.{◌≡◌, false, sym, ◌∙◌, ap, subst, List, rules}
use Rattle.std.specs.List.{list_any}
use Rattle.scim_schema.specs.declared.Unit.{Unit as AttributeUnit}
use Rattle.scim_schema.specs.Units.{units}
use Rattle.scim_policy.specs.Access.{Access}
use Rattle.scim_policy.specs.PatternTable.{access_in}
use Rattle.scim_view.specs.View.{viewer_of, visible}
use Rattle.scim_service.specs.Step.{access_to}
use Rattle.scim_service.specs.code.Questions.{is_in_question}
use Rattle.scim_service.proofs.ReplaceLemmas.{none_questioned}
use Rattle.scim_service.proofs.put_plans.first_unit_denied.Goals as goal

pub returns-then-not-is_any_questionable : goal.returns-then-not-is_any_questionable
returns-then-not-is_any_questionable c =
    let viewer = viewer_of c.args.viewer.now in
    let draft = c.args.draft.now in
    let resource = c.args.resource.now in
    let all = units draft.kind in
    let same : c.units-own.result.now ≡ all = c.units-own.ensures ∙ ap units c.kind.ensures in
    let none : list_any (is_in_question (access_in c.args.rights.now) draft) all ≡ false
    = sym (c.is_any_questionable.ensures ∙ ap (λ (us : List AttributeUnit). list_any (is_in_question (access_in c.args.rights.now) draft) us) same) ∙ c.if-not-is_any_questionable.true in
    sym (none_questioned (access_to viewer resource) draft (visible viewer resource) all
    (subst (λ (a : Access). list_any (is_in_question a draft) all ≡ false) c.requires.access none))

-- by name, so that a body that breaks it is refused at once
pub returns : goal.returns
returns c = search rules
