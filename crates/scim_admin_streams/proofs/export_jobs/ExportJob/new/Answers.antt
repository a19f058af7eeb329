use Rattle.std.proofs.Common.{rules, ◌≡◌, []}
use Rattle.scim_admin_streams.proofs.ExportLemmas.{all_names}
use Rattle.scim_admin_streams.proofs.export_jobs.ExportJob.new.Goals as goal

pub returns-clause-names : goal.returns-clause-names
returns-clause-names g c = λ store stands honest.
    let none : c.new.result.items ≡ [] = search rules in
    all_names store.resources (record { names = c.new.result }) c.each.new.visitor c.each-2.new.visitor none
    (c.in_ok-each.ensures.answer store stands (c.each-2.ensures.read.honest honest))
    (c.in_ok-each-2.ensures.answer store (c.each.ensures.read.store store stands) honest)
