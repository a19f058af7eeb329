use Rattle.scim_store_tables.proofs.Facts.{does_less}
use Rattle.scim_store.proofs.ImportLemmas.{hold_more}
use Rattle.scim_store.proofs.importing.insert_rows.Goals as goal

pub returns-clause-does : goal.returns-clause-does
returns-clause-does g c =
    does_less g.S.Store c.args.tx.now c.put_rows.new.tx _ tt _ _ c.in_ok-put_rows.ensures.does
    (λ old new did base cs below hold. hold_more base cs c.args.resource.now c.in_ok-edits.edits old new (c.in_ok-edits.ensures base below) did hold)
