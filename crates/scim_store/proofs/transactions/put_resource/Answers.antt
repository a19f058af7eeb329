use Rattle.scim_store_tables.proofs.Facts.{does_less}
use Rattle.scim_store.proofs.transactions.put_resource.Goals as goal

pub returns-in_ok-insert_resource-in-Some : goal.returns-in_ok-insert_resource-in-Some
returns-in_ok-insert_resource-in-Some g c = record {
  does = does_less g.S.Store c.args.tx.now c.insert_resource.new.tx _ tt _ _ c.in_ok-insert_resource-in-Some.ensures.does
      (λ _ _ did lists are. rw (c.in-Some.is) (rw (c.as_str.ensures, c.kind_number.ensures, c.as_str-in-Some.ensures.value) at (did lists are)));
}
