use Rattle.scim_store_tables.proofs.Facts.{does_then}
use Rattle.scim_store.proofs.transactions.put_names_and_members.Goals as goal

pub returns : goal.returns
returns g c = record {
  does = does_then g.S.Store c.args.tx.now c.insert_names.new.tx c.insert_members.new.tx _ c.insert_members.result _ _ _ c.in_ok-insert_names.ensures.does c.insert_members.ensures.does
      (λ _ _ _ one two lists are. rw (c.as_slice.ensures.value, c.as_slice-2.ensures.value, c.as_str.ensures, c.as_str-2.ensures) at (two _ (one lists are)));
}
