use Rattle.std.proofs.Common.{◌≡◌, ◌∙◌, ℕ, ◌+◌, ◌<◌, sym, ap, arith, take, length, set, subst, List, ◌++◌, ◌∷◌, []}
use Rattle.std.proofs.lemmas.List.{take_more}
use Rattle.std.proofs.Math.ListN.{length-set}
use Rattle.scim_policy.specs.Rules.{Rule}
use Rattle.scim_shelf.specs.Stores.{IsStore}
use Rattle.scim_service.specs.declared.requests.Turn.{Turn}
use Rattle.scim_service.specs.declared.replies.Reply.{Reply}
use Rattle.scim_service.specs.Answers.{IsCause, Answered, Runs}
use Rattle.scim_service.proofs.RunLemmas.{runs_at}
use Rattle.scim_service.proofs.answering_turns.Service.run.Goals as goal

pub loop-turn-preserved : goal.loop-turn-preserved
loop-turn-preserved g c =
    let inv = c.loop-turn.invariant in
    let i = c.loop-turn.turn-index in
    let qs = c.args.turns.now in
    let rs = c.loop-turn.replies.items in
    let q = c.turn-item.result in
    let r = c.answer-reply.result in
    let policy = c.args.self.now.policy in
    let base = c.args.self.now.base in
    let first = g.S.Shelf.failures c.args.self.now.shelf in
    let count = g.S.Shelf.failures c.loop-turn.self.shelf in
    let now = g.S.Shelf.failures c.answer-reply.new.self.shelf in
    let within : i < length rs = omega arith in
    let turns : take (i + 1) qs ≡ take i qs ++ q ∷ [] = take_more qs i q c.loop-turn-test.true ∙ ap (λ (x : Turn). take i qs ++ x ∷ []) (sym c.turn-item.is) in
    record {
      size = omega (arith, length-set {A = Reply});
      here = ap (λ n. n + 1) inv.here;
      policy = c.answer-reply.ensures.keeps.policy ∙ inv.policy;
      base = c.answer-reply.ensures.keeps.base ∙ inv.base;
      ran = λ store stands honest is.
          let before = inv.ran store stands (c.answer-reply.ensures.honest honest) is in
          let step = c.answer-reply.ensures.answered before.0 before.1 honest (subst (λ (b : List ℕ). IsStore b before.0) (sym inv.base) before.2) in
          let kept : IsStore base step.0 = subst (λ (b : List ℕ). IsStore b step.0) inv.base step.2 in
          let cause = IsCause count now before.0 in
          let answered : Answered policy base cause q before.0 r step.0 =
          subst (λ (p : List Rule). Answered p base cause q before.0 r step.0) inv.policy
          (subst (λ (b : List ℕ). Answered c.loop-turn.self.policy b cause q before.0 r step.0) inv.base step.3) in
          let runs = runs_at policy base q r count now before.0 step.0 c.answer-reply.ensures.grown answered first store qs rs i within turns before.3 in
          (step.0, step.1, kept, subst (λ (n : ℕ). Runs policy base first store (take (i + 1) qs) (take (i + 1) (set rs n r)) now step.0) (sym inv.here) runs);
      round = λ round has. c.answer-reply.ensures.round round (inv.round round has);
      honest = λ h. inv.honest (c.answer-reply.ensures.honest h);
      grown = omega (arith, inv.grown, c.answer-reply.ensures.grown);
    }
