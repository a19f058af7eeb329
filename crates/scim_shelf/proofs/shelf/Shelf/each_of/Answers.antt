use Rattle.std.proofs.Common.{rules, ◌≡◌, ◌∙◌, subst}
use Rattle.std.specs.List.{FoldsTo}
use Rattle.std.proofs.lemmas.Result.{on_ok_weaker}
use Rattle.scim_cell.specs.Kinds.{of_kind}
use Rattle.scim_shelf.specs.Shelves.{TookPrefix}
use Rattle.scim_shelf.specs.Stores.{with_some_text}
use Rattle.scim_shelf.proofs.PassLemmas.{passed, passed_prefix}
use Rattle.scim_shelf.proofs.shelf.Shelf.each_of.Goals as goal

pub returns-clause-answer : goal.returns-clause-answer
returns-clause-answer g c =
    let filter = c.new-filter.ensures in
    on_ok_weaker c.each.result
    (λ folds store stands honest.
    let all = passed g.V.Visitor.takes c.new-filter.result (of_kind c.args.kind store.resources) c.each.new.visitor (folds store stands honest) in
    let name = all.0 ∙ filter.same_reference in
    let same : c.each.new.visitor.visitor.now ≡ c.visitor-1.given.0 = search (rules, name) in
    subst (λ v. FoldsTo g.V.Visitor.takes c.args.visitor.now (with_some_text c.args.kind c.args.texts.now store.resources) v) same
    (rw (filter.visitor, filter.texts) at all.1))
    c.each.ensures.answer

pub returns-clause-prefix : goal.returns-clause-prefix
returns-clause-prefix g c = λ device store stands honest.
    let filter = c.new-filter.ensures in
    let all = passed_prefix g.V.Visitor.takes c.new-filter.result (of_kind c.args.kind store.resources) c.each.new.visitor (c.each.ensures.prefix device store stands honest) in
    let name = all.0 ∙ filter.same_reference in
    let same : c.each.new.visitor.visitor.now ≡ c.visitor-1.given.0 = search (rules, name) in
    subst (λ v. TookPrefix g.V.Visitor.takes c.args.visitor.now (with_some_text c.args.kind c.args.texts.now store.resources) v) same
    (rw (filter.visitor, filter.texts) at all.1)
