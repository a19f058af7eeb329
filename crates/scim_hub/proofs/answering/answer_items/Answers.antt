use Rattle.std.proofs.Common.{◌∙◌, sym, ap, subst, ℕ, ◌+◌, List, ◌∷◌, [], ◌++◌, take, arith, false}
use Rattle.std.specs.Prelude.{Ok, Err}
use Rattle.std.proofs.lemmas.List.{take_more, take_all}
use Rattle.std.proofs.lemmas.Result.{err_from_is_err_and}
use Rattle.scim_wire.specs.declared.messages.Item.{Item}
use Rattle.scim_hub.specs.Answering.{AreAnswered}
use Rattle.scim_hub.specs.code.Replies.{IsOver}
use Rattle.scim_hub.proofs.AnsweringLemmas.{next_answered, front_answered, closed_by, reached_more, all_answered, deeds_open, at_most_one}
use Rattle.scim_hub.proofs.answering.answer_items.Goals as goal

pub returns-in_err-reply-clause-answered : goal.returns-in_err-reply-clause-answered
returns-in_err-reply-clause-answered g c entries held store knows stands honest is =
    let inv = c.loop-item.invariant in
    let i = c.loop-item.item-index in
    let items = c.args.items.now in
    let item = c.item-item.result in
    let more = take_more items i item c.loop-item-test.true ∙ ap (λ (x : Item). take i items ++ x ∷ []) (sym c.item-item.is) in
    let s = next_answered (IsOver c.args.serving g.S.Shelf.stands held) _ _ _ _ _ _ entries _ c.args.connection (take i items) store _ c.loop-item.outputs.items item (Err c.in_err-reply.field-0.0) inv.policy inv.base
    (inv.answered entries held store knows stands (c.in_err-reply.ensures.honest honest) is) (λ mid at sound. c.in_err-reply.ensures.answered entries held mid knows at honest sound) in
    let p = err_from_is_err_and c.from_residual.result c.from_residual.ensures.1 in
    (s.0, s.5, s.6, rw p.1 (front_answered _ _ entries _ items i item store s.2 _ s.1 s.3 s.4 s.0 more s.7 s.9))

pub returns-in_err-push-clause-answered : goal.returns-in_err-push-clause-answered
returns-in_err-push-clause-answered g c entries held store knows stands honest is =
    let inv = c.loop-item.invariant in
    let i = c.loop-item.item-index in
    let items = c.args.items.now in
    let item = c.item-item.result in
    let more = take_more items i item c.loop-item-test.true ∙ ap (λ (x : Item). take i items ++ x ∷ []) (sym c.item-item.is) in
    let s = next_answered (IsOver c.args.serving g.S.Shelf.stands held) _ _ _ _ _ _ entries _ c.args.connection (take i items) store _ c.loop-item.outputs.items item (Ok c.in_ok-reply.reply) inv.policy inv.base
    (inv.answered entries held store knows stands (c.in_ok-reply.ensures.honest honest) is) (λ mid at sound. c.in_ok-reply.ensures.answered entries held mid knows at honest sound) in
    let p = err_from_is_err_and c.from_residual-in_err-push.result c.from_residual-in_err-push.ensures.1 in
    (s.0, s.5, s.6, rw p.1 (front_answered _ _ entries _ items i item store s.2 _ s.1 s.3 s.4 s.0 more s.7 s.9))

pub returns-in_err-push-2-clause-answered : goal.returns-in_err-push-2-clause-answered
returns-in_err-push-2-clause-answered g c entries held store knows stands honest is =
    let inv = c.loop-item.invariant in
    let i = c.loop-item.item-index in
    let items = c.args.items.now in
    let item = c.item-item.result in
    let more = take_more items i item c.loop-item-test.true ∙ ap (λ (x : Item). take i items ++ x ∷ []) (sym c.item-item.is) in
    let s = next_answered (IsOver c.args.serving g.S.Shelf.stands held) _ _ _ _ _ _ entries _ c.args.connection (take i items) store _ c.loop-item.outputs.items item (Ok c.in_ok-reply.reply) inv.policy inv.base
    (inv.answered entries held store knows stands (c.in_ok-reply.ensures.honest honest) is) (λ mid at sound. c.in_ok-reply.ensures.answered entries held mid knows at honest sound) in
    let p = err_from_is_err_and c.from_residual-in_err-push-2.result c.from_residual-in_err-push-2.ensures.1 in
    (s.0, s.5, s.6, rw p.1 (front_answered _ _ entries _ items i item store s.2 _ s.1 s.3 s.4 s.0 more s.7 s.9))

pub returns-then-closes-clause-answered : goal.returns-then-closes-clause-answered
returns-then-closes-clause-answered g c entries held store knows stands honest is =
    let inv = c.loop-item.invariant in
    let i = c.loop-item.item-index in
    let items = c.args.items.now in
    let item = c.item-item.result in
    let n = c.args.connection in
    let more = take_more items i item c.loop-item-test.true ∙ ap (λ (x : Item). take i items ++ x ∷ []) (sym c.item-item.is) in
    let s = next_answered (IsOver c.args.serving g.S.Shelf.stands held) _ _ _ _ _ _ entries _ n (take i items) store _ c.loop-item.outputs.items item (Ok c.in_ok-reply.reply) inv.policy inv.base
    (inv.answered entries held store knows stands (c.in_ok-reply.ensures.honest honest) is) (λ mid at sound. c.in_ok-reply.ensures.answered entries held mid knows at honest sound) in
    let closes = sym s.10.1 ∙ c.if-closes.true in (
      s.0,
      s.5,
      s.6,
      closed_by c.args.service.now.policy c.args.service.now.base entries c.args.stamp.now n items i item store s.2 c.loop-item.count s.1 s.3 s.4 s.0 c.loop-item.outputs.items c.push.new.values.items
          c.push-then-closes.new.values.items c.in_ok-reply.reply.text c.in_ok-push.ensures.items c.in_ok-push-2.ensures.items more s.7 s.9 s.8 s.10.0 closes,
    )

pub loop-item-preserved : goal.loop-item-preserved
loop-item-preserved g c =
    let inv = c.loop-item.invariant in
    let i = c.loop-item.item-index in
    let items = c.args.items.now in
    let item = c.item-item.result in
    let n = c.args.connection in
    let k = c.loop-item.count in
    let more = take_more items i item c.loop-item-test.true ∙ ap (λ (x : Item). take i items ++ x ∷ []) (sym c.item-item.is) in
    let reply = c.in_ok-reply.reply in
    record {
      policy = c.in_ok-reply.ensures.keeps.policy ∙ inv.policy;
      base = c.in_ok-reply.ensures.keeps.base ∙ inv.base;
      lost = λ lost. c.in_ok-reply.ensures.lost lost ∙ inv.lost lost;
      round = λ round has. c.in_ok-reply.ensures.round round (inv.round round has);
      honest = λ h. inv.honest (c.in_ok-reply.ensures.honest h);
      count = omega (arith, inv.count, c.whole_count-count.ensures, at_most_one item);
      answered = λ entries held store knows stands honest is.
          let s = next_answered (IsOver c.args.serving g.S.Shelf.stands held) _ _ _ _ _ _ entries _ n (take i items) store _ c.loop-item.outputs.items item (Ok reply) inv.policy inv.base
          (inv.answered entries held store knows stands (c.in_ok-reply.ensures.honest honest) is) (λ mid at sound. c.in_ok-reply.ensures.answered entries held mid knows at honest sound) in
          reached_more (IsOver c.args.serving g.S.Shelf.stands held) c.answer_item.new.service.shelf c.args.service.now.policy c.args.service.now.base entries c.args.stamp.now n items i item store k (k + c.whole_count-count.result)
          c.loop-item.outputs.items c.push.new.values.items reply c.in_ok-push.ensures.items more (ap (λ (m : ℕ). k + m) c.whole_count-count.ensures) c.if-closes.false s;
    }

pub returns-clause-answered : goal.returns-clause-answered
returns-clause-answered g c entries held store knows stands honest is =
    let inv = c.loop-item.invariant in
    let i = c.loop-item.item-index in
    let items = c.args.items.now in
    let r = inv.answered entries held store knows stands honest is in
    let all = take_all i items c.loop-item-test.false in
    let policy = c.args.service.now.policy in
    let base = c.args.service.now.base in
    (r.0, r.2, r.3, (r.1, subst (λ (xs : List Item). AreAnswered policy base entries c.args.stamp.now 0 xs store r.1 false r.0) all (all_answered policy base entries c.args.stamp.now (take i items) store r.1 _ r.0 r.4), deeds_open c.args.connection c.loop-item.outputs.items r.1 r.5))
