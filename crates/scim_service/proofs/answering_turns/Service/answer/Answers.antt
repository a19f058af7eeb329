use Rattle.std.proofs.Common.{◌≡◌, ◌≢◌, true, Err, refl, sym, ◌∙◌, ap, subst, inl, inr, ℕ, List}
use Rattle.scim_audit.specs.declared.refusals.Refusal.TheVariants.{Store as NoStore}
use Rattle.scim_view.specs.View.{Viewer}
use Rattle.scim_shelf.specs.Stores.{IsStore, after}
use Rattle.scim_service.specs.Step.{viewer_at, request_plan, next_store}
use Rattle.scim_service.proofs.answering_turns.Service.answer.Goals as goal

pub returns-in-Ok-clause-answered : goal.returns-in-Ok-clause-answered
returns-in-Ok-clause-answered g c store stands honest is =
    let turn = c.args.turn.now in
    let policy = c.args.self.now.policy in
    let base = c.args.self.now.base in
    let client_is : c.as_str.result.now ≡ turn.request.client = c.as_str.ensures in
    let base_is : c.as_str-2.result.now ≡ base = c.as_str-2.ensures in
    let viewer : Viewer = record { policy = policy; client = c.as_str.result.now; base = c.as_str-2.result.now } in
    let same : viewer ≡ viewer_at policy base turn = λ i. record { policy = policy; client = client_is i; base = base_is i } in
    let told : turn.request.ask ≢ Err NoStore = λ unread. (let yes' : c.is_unread.result ≡ true = c.is_unread.ensures.1 unread in cc) in
    let cs = store.resources in
    let ask = turn.request.ask in
    let done = c.in-Ok.ensures.done store stands honest (subst (λ (b : List ℕ). IsStore b store) (sym base_is) is) in (
      next_store policy base turn store,
      subst (λ (v : Viewer). g.S.Shelf.stands c.answer_or_fault.new.shelf (after (request_plan v turn cs ask).change (request_plan v turn cs ask).row store)) same done.1,
      subst (λ (v : Viewer). IsStore v.base (after (request_plan v turn cs ask).change (request_plan v turn cs ask).row store)) same done.2,
      inr (told, inl (done.0 ∙ ap (λ (v : Viewer). (request_plan v turn cs ask).reply) same, refl)),
    )
