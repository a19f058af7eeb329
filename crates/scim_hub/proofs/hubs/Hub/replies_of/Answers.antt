use Rattle.std.proofs.Common.{◌∙◌, refl, sym, ap, subst, Bool, true, false, Some, List}
use Rattle.scim_wire.specs.declared.messages.Item.{Item}
use Rattle.scim_shelf.specs.Stores.{Store}
use Rattle.scim_hub.specs.code.Replies.{AreReplies}
use Rattle.scim_hub.specs.code.Rounds.{ComesTo}
use Rattle.std.specs.Prelude.{Ok}
use Rattle.scim_hub.proofs.hubs.Hub.replies_of.Goals as goal

pub returns-then-made-clause-replied : goal.returns-then-made-clause-replied
returns-then-made-clause-replied g c entries store next knows honest comes =
    subst (λ (made : Bool). ComesTo c.args.self.now.service.policy c.args.self.now.service.base entries made c.args.piece.now.stamp c.args.piece.now.connection (Ok c.args.answered) store next)
    c.if-made.true comes

pub returns-clause-replied : goal.returns-clause-replied
returns-clause-replied g c entries store next knows honest comes =
    let policy = c.args.self.now.service.policy in
    let base = c.args.self.now.service.base in
    let stayed = subst (λ (made : Bool). ComesTo policy base entries made c.args.piece.now.stamp c.args.piece.now.connection (Ok c.args.answered) store next) c.if-made.false comes in
    let honest_then : g.S.Shelf.is_honest c.answer_items.new.service.shelf = rw (c.answer_items.ensures.lost refl) honest in
    let done = c.answer_items.ensures.answered entries (Some store) store knows refl
    honest_then stayed.0 in
    subst (λ (s : Store). AreReplies policy base entries c.args.piece.now.stamp c.args.piece.now.connection c.args.answered.items.items store c.answer_items.result s)
    (done.1 ∙ sym stayed.1)
    (subst (λ (xs : List Item). AreReplies policy base entries c.args.piece.now.stamp c.args.piece.now.connection xs store c.answer_items.result done.0) c.as_slice.ensures.value done.3)
