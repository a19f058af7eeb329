use Rattle.std.proofs.Common.{◌∙◌, sym, [], ◌∷◌, ◌++◌, Ok, Err}
use Rattle.std.proofs.iter.Next.{Yields-more}
use Rattle.std.specs.Vec.Iter.{into_iter_items, into_iter_steps}
use Rattle.scim_command.proofs.InputLemmas.{first_at, taken_front}
use Rattle.scim_command.proofs.inputs.first_of.Goals as goal

pub returns-in-Whole-clause-first : goal.returns-in-Whole-clause-first
returns-in-Whole-clause-first c =
    let it = c.into_iter-item-iterator.result in
    let seen = c.loop-item.yielded in
    let item = c.in-Some.item in
    let more = Yields-more into_iter_steps it seen c.loop-item.item-iterator item c.next.new.self c.loop-item.yielded_by c.in-Some.ensures.steps in
    first_at c.args.items.items seen item (into_iter_items c.next.new.self) (Ok c.in-Whole.message)
    (sym c.into_iter-item-iterator.ensures.into_iter_gives.0 ∙ taken_front it (seen ++ item ∷ []) c.next.new.self more) c.in-Whole.is c.loop-item.invariant

pub returns-in-Refused-clause-first : goal.returns-in-Refused-clause-first
returns-in-Refused-clause-first c =
    let it = c.into_iter-item-iterator.result in
    let seen = c.loop-item.yielded in
    let item = c.in-Some.item in
    let more = Yields-more into_iter_steps it seen c.loop-item.item-iterator item c.next.new.self c.loop-item.yielded_by c.in-Some.ensures.steps in
    first_at c.args.items.items seen item (into_iter_items c.next.new.self) (Err c.in-Refused.refusal)
    (sym c.into_iter-item-iterator.ensures.into_iter_gives.0 ∙ taken_front it (seen ++ item ∷ []) c.next.new.self more) c.in-Refused.is c.loop-item.invariant
