use Rattle.std.proofs.Common.{◌∙◌, ap, List, ◌++◌}
use Rattle.scim_cell.specs.Content.{Content}
use Rattle.scim_cell.specs.Kinds.{of_kind}
use Rattle.scim_shelf.proofs.CopyLemmas.{all_taken}
use Rattle.scim_shelf.proofs.copies.all_of.Goals as goal

pub returns-clause-answer : goal.returns-clause-answer
returns-clause-answer g c = λ store stands honest.
    let all = of_kind c.args.kind store.resources in
    all_taken all (record { resources = c.new.result }) c.each.new.visitor (c.in_ok-each.ensures.answer store stands honest)
    ∙ ap (λ (xs : List Content). xs ++ all) c.new.ensures.items
