use Rattle.scim_shelf.proofs.CollectLemmas.{all_shown}
use Rattle.scim_shelf.proofs.copies.collection_of.Goals as goal

pub returns-clause-answer : goal.returns-clause-answer
returns-clause-answer g c = λ store stands honest keyed.
    let middle = c.in_ok-each-2.ensures.read in
    all_shown store.resources (record { collection = c.new.result }) c.each.new.visitor c.each-2.new.visitor keyed c.new.ensures
    (c.in_ok-each.ensures.answer store stands (middle.honest honest))
    (c.in_ok-each-2.ensures.answer store (c.in_ok-each.ensures.read.store store stands) honest)
