use Rattle.scim_store_tables.proofs.Facts.{does_then}
use Rattle.scim_store.proofs.transactions.write_secret.Goals as goal

pub returns : goal.returns
returns g c = record {
  does = does_then g.S.Store c.args.tx.now c.take_secret.new.tx c.put_secret.new.tx _ c.put_secret.result _ _ _ c.in_ok-take_secret.ensures.does c.put_secret.ensures.does (λ _ _ _ one two lists are. two _ (one lists are));
}
