use Rattle.scim_store_tables.proofs.Facts.{does_both, does_by}
use Rattle.scim_store.proofs.transactions.replace_resource.Goals as goal

pub returns-in_ok-insert_resource-in-0 : goal.returns-in_ok-insert_resource-in-0
returns-in_ok-insert_resource-in-0 g c = record {
  does = (let mid = c.update_resource.new.tx in
      does_both g.S.Store c.args.tx.now mid c.insert_resource.new.tx _ _ tt _ _ _ (does_by g.S.Store c.args.tx.now mid _ _ c.in_ok-update_resource.ensures.does) c.in_ok-insert_resource-in-0.ensures.does
      (λ _ _ _ one two lists are. two _ (rw c.in-0.is at (one lists are)).1));
}
