use Rattle.std.proofs.Common.{rules, ◌≡◌, ◌∙◌, subst, arith, Err}
use Rattle.std.specs.List.{FoldsTo}
use Rattle.scim_text.specs.declared.memory.Failed.TheVariants.{Because}
use Rattle.scim_shelf.specs.declared.faults.ShelfFault.TheVariants.{Device}
use Rattle.scim_cell.specs.Kinds.{of_kind}
use Rattle.scim_shelf.specs.Shelves.{TookPrefix}
use Rattle.scim_shelf.specs.Stores.{window}
use Rattle.scim_shelf.proofs.WindowLemmas.{passed, took_all, took_prefix}
use Rattle.scim_shelf.proofs.shelf.Shelf.each_from.Goals as goal

pub returns-clause-answer : goal.returns-clause-answer
returns-clause-answer g c = λ store stands honest.
    let begun = c.new-window.ensures in
    let takes = g.V.Visitor.takes in
    let all = of_kind c.args.kind store.resources in
    let folds = c.in_ok-each.ensures.answer store stands honest in
    let took = took_all takes c.new-window.result all c.each.new.visitor begun.shown folds in
    let name = took.0 ∙ begun.same_reference in
    let new : c.each.new.visitor.visitor.now ≡ c.visitor-2-1.given.0 = search (rules, name) in
    let counted = (passed takes c.new-window.result all c.each.new.visitor folds).shown in
    record {
      number = omega (arith, c.shown.ensures, counted, begun.shown);
      took =
          subst (λ v. FoldsTo takes c.args.visitor.now (window c.args.skipped c.args.count all) v) new
          (rw (begun.visitor, begun.skipped, begun.count) at took.1);
    }

pub returns-in_err-each-clause-prefix : goal.returns-in_err-each-clause-prefix
returns-in_err-each-clause-prefix g c = λ device store stands honest.
    let begun = c.new-window.ensures in
    let takes = g.V.Visitor.takes in
    let all = of_kind c.args.kind store.resources in
    let failed : c.each.result ≡ Err (Because Device) = search rules in
    let took = took_prefix takes c.new-window.result all c.each.new.visitor begun.shown (c.each.ensures.prefix failed store stands honest) in
    let name = took.0 ∙ begun.same_reference in
    let new : c.each.new.visitor.visitor.now ≡ c.in_err-each.visitor-1-own.given.0 = search (rules, name) in
    subst (λ v. TookPrefix takes c.args.visitor.now (window c.args.skipped c.args.count all) v) new
    (rw (begun.visitor, begun.skipped, begun.count) at took.1)
