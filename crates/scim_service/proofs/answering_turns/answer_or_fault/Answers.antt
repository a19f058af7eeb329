use Rattle.std.proofs.Common.{◌≡◌, sym, ◌∙◌, ap, subst}
use Rattle.scim_audit.specs.declared.audit_rows.AuditRow.{AuditRow}
use Rattle.scim_view.specs.View.{viewer_of}
use Rattle.scim_shelf.specs.declared.changes.Change.{Change}
use Rattle.scim_service.specs.declared.replies.Reply.{Reply}
use Rattle.scim_shelf.specs.Stores.{CanKeep, after}
use Rattle.scim_service.specs.declared.plans.Plan.{Plan}
use Rattle.scim_service.specs.Step as spec
use Rattle.scim_service.proofs.KeepLemmas.{planned_is_store}
use Rattle.scim_service.proofs.StepLemmas.{can_keep}
use Rattle.scim_service.proofs.answering_turns.answer_or_fault.Goals as goal

pub returns-clause-done : goal.returns-clause-done
returns-clause-done g c store stands honest is =
    let viewer = viewer_of c.args.viewer.now in
    let turn = c.args.turn.now in
    let next = spec.request_plan viewer turn store.resources turn.request.ask in
    let made = c.in_ok-plan.ensures.plan store stands (c.in_ok-commit.ensures.commits.honest honest) viewer.base is in
    let same : c.into_parts-reply.result ≡ (next.reply, next.change, next.row) = c.into_parts-reply.ensures ∙ ap (λ (p : Plan). (p.reply, p.change, p.row)) made in
    let may : CanKeep store c.into_parts-reply.result.1
    = subst (λ (it : Reply × Change × AuditRow). CanKeep store it.1) (sym same) (can_keep viewer turn store turn.request.ask is.keyed) in
    let done = c.in_ok-commit.ensures.ok store (c.in_ok-plan.ensures.read.store store stands) is.keyed may in (
      ap (λ (it : Reply × Change × AuditRow). it.0) same,
      subst (λ (it : Reply × Change × AuditRow). g.S.Shelf.stands c.commit.new.self (after it.1 it.2 store)) same done,
      planned_is_store viewer turn store is c.turn_is_sound.ensures,
    )
