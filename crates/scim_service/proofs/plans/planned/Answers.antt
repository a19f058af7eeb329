use Rattle.std.proofs.Common.{◌≡◌, sym, ◌∙◌, ap}
use Rattle.std.specs.Prelude.{Result, Ok}
use Rattle.std.proofs.lemmas.Result.{IfOk-weaker}
use Rattle.scim_audit.specs.declared.refusals.Refusal.{Refusal}
use Rattle.scim_view.specs.View.{viewer_of}
use Rattle.scim_service.specs.declared.requests.Ask.{Ask}
use Rattle.scim_service.specs.declared.requests.Ask.TheVariants.{Get, Search, Create, Replace, Patch}
use Rattle.scim_service.specs.Step as spec
use Rattle.scim_service.proofs.plans.planned.Goals as goal

pub returns-in-Ok-Get-clause-plan : goal.returns-in-Ok-Get-clause-plan
returns-in-Ok-Get-clause-plan g c =
    let asked : c.args.turn.now.request.ask ≡ Ok (Get c.in-Ok-Get.wanted) = c.in-Ok-Get.is ∙ ap (λ (a : Ask). Ok a) (rw c.in-Ok-Get.is at c.in-Ok-Get.field-0-is) in
    IfOk-weaker c.plan_get.result _ _
    (λ plan answer store stands honest base is.
    answer store stands honest base is ∙ ap (λ (a : Result Ask Refusal). spec.request_plan (viewer_of c.args.viewer.now) c.args.turn.now store.resources a) (sym asked))
    c.plan_get.ensures.plan

pub returns-in-Ok-Search-clause-plan : goal.returns-in-Ok-Search-clause-plan
returns-in-Ok-Search-clause-plan g c =
    let asked : c.args.turn.now.request.ask ≡ Ok (Search c.in-Ok-Search.query) = c.in-Ok-Search.is ∙ ap (λ (a : Ask). Ok a) (rw c.in-Ok-Search.is at c.in-Ok-Search.field-0-is) in
    IfOk-weaker c.plan_search.result _ _
    (λ plan answer store stands honest base is.
    answer store stands honest base is ∙ ap (λ (a : Result Ask Refusal). spec.request_plan (viewer_of c.args.viewer.now) c.args.turn.now store.resources a) (sym asked))
    c.plan_search.ensures.plan

pub returns-in-Ok-Create-clause-plan : goal.returns-in-Ok-Create-clause-plan
returns-in-Ok-Create-clause-plan g c =
    let asked : c.args.turn.now.request.ask ≡ Ok (Create c.in-Ok-Create.draft c.in-Ok-Create.wanted) = c.in-Ok-Create.is ∙ ap (λ (a : Ask). Ok a) (rw c.in-Ok-Create.is at c.in-Ok-Create.field-0-is) in
    IfOk-weaker c.plan_create.result _ _
    (λ plan answer store stands honest base is.
    answer store stands honest base is ∙ ap (λ (a : Result Ask Refusal). spec.request_plan (viewer_of c.args.viewer.now) c.args.turn.now store.resources a) (sym asked))
    c.plan_create.ensures.plan

pub returns-in-Ok-Replace-clause-plan : goal.returns-in-Ok-Replace-clause-plan
returns-in-Ok-Replace-clause-plan g c =
    let asked : c.args.turn.now.request.ask ≡ Ok (Replace c.in-Ok-Replace.draft c.in-Ok-Replace.wanted) = c.in-Ok-Replace.is ∙ ap (λ (a : Ask). Ok a) (rw c.in-Ok-Replace.is at c.in-Ok-Replace.field-0-is) in
    IfOk-weaker c.plan_replace.result _ _
    (λ plan answer store stands honest base is.
    answer store stands honest base is ∙ ap (λ (a : Result Ask Refusal). spec.request_plan (viewer_of c.args.viewer.now) c.args.turn.now store.resources a) (sym asked))
    c.plan_replace.ensures.plan

pub returns-in-Ok-Patch-clause-plan : goal.returns-in-Ok-Patch-clause-plan
returns-in-Ok-Patch-clause-plan g c =
    let asked : c.args.turn.now.request.ask ≡ Ok (Patch c.in-Ok-Patch.patch c.in-Ok-Patch.wanted) = c.in-Ok-Patch.is ∙ ap (λ (a : Ask). Ok a) (rw c.in-Ok-Patch.is at c.in-Ok-Patch.field-0-is) in
    IfOk-weaker c.plan_patch.result _ _
    (λ plan answer store stands honest base is.
    answer store stands honest base is ∙ ap (λ (a : Result Ask Refusal). spec.request_plan (viewer_of c.args.viewer.now) c.args.turn.now store.resources a) (sym asked))
    c.plan_patch.ensures.plan
