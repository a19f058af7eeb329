use Rattle.std.proofs.lemmas.Result.{on_ok_weaker}
use Rattle.scim_schema.specs.declared.Kind.TheVariants.{User, Group}
use Rattle.scim_cell.specs.Kinds.{of_kind}
use Rattle.scim_command_database.proofs.ExportLemmas.{folds_on}
use Rattle.scim_command_database.proofs.exporting.show_all.Goals as goal

pub returns-clause-shown : goal.returns-clause-shown
returns-clause-shown g c =
    on_ok_weaker c.each-2.result
    (λ groups store stands honest. folds_on g.V.Visitor.takes (of_kind User store.resources) (of_kind Group store.resources) c.args.visitor.now c.each.new.visitor c.each-2.new.visitor
    (c.in_ok-each.ensures.answer store stands (c.each-2.ensures.read.honest honest)) (groups store (c.each.ensures.read.store store stands) honest))
    c.each-2.ensures.answer
