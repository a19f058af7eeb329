use Rattle.scim_store_tables.proofs.Facts.{does_then}
use Rattle.scim_store.proofs.importing.make_store.Goals as goal

pub returns-clause-does : goal.returns-clause-does
returns-clause-does g c =
    does_then g.S.Store c.args.tx.now c.make_tables.new.tx c.insert_users.new.tx _ c.insert_users.result _ _ _ c.in_ok-make_tables.ensures.does c.insert_users.ensures.does (λ _ _ _ one two empty. two (one empty))
