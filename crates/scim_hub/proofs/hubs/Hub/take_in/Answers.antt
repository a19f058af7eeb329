use Rattle.std.proofs.Common.{List, refl, subst, None}
use Rattle.std.proofs.lemmas.Result.{err_from_is_err_and}
use Rattle.scim_wire.specs.declared.messages.Item.{Item}
use Rattle.scim_hub.specs.code.Replies.{AreReplies}
use Rattle.scim_hub.proofs.RoundLemmas.{taken_in, not_taken_in}
use Rattle.scim_hub.proofs.hubs.Hub.take_in.Goals as goal

pub returns-in_err-items-clause-taken : goal.returns-in_err-items-clause-taken
returns-in_err-items-clause-taken g c connections are =
    let p = err_from_is_err_and c.from_residual.result c.from_residual.ensures.1 in
    let n = c.args.piece.now.connection in
    rw (p.1, p.2) (not_taken_in (connections n) n c.args.piece.now.bytes.now connections c.in_err-items.field-0.0 c.feed.new.self refl (c.in_err-items.ensures connections are))

pub returns-clause-taken : goal.returns-clause-taken
returns-clause-taken g c connections are =
    let n = c.args.piece.now.connection in
    taken_in (connections n) n c.args.piece.now.bytes.now connections (record { items = c.in_ok-items.items; replies = c.answer_items-replies.result }) c.feed.new.self (c.in_ok-items.ensures connections are)

pub returns-clause-answered : goal.returns-clause-answered
returns-clause-answered g c entries store knows stands honest is =
    let done = c.answer_items-replies.ensures.answered entries None store knows stands honest is in (
      done.0,
      done.1,
      done.2,
      subst (λ (xs : List Item). AreReplies c.args.self.now.service.policy c.args.self.now.service.base entries c.args.piece.now.stamp c.args.piece.now.connection xs store c.answer_items-replies.result done.0)
          c.as_slice.ensures.value done.3,
    )
