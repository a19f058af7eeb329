use Rattle.scim_store_tables.proofs.Facts.{does_both, fails_then}
use Rattle.scim_store.proofs.StandLemmas.{writes}
use Rattle.scim_store.proofs.transactions.write_rows.Goals as goal

pub returns-in_err-insert_audit : goal.returns-in_err-insert_audit
returns-in_err-insert_audit g c = record {
  does = fails_then g.S.Store c.args.tx.now c.edit_if_any.new.tx c.insert_audit.new.tx _ _ c.from_residual-in_err-insert_audit.result _ _ _ c.in_ok-edit_if_any.ensures.does c.in_err-insert_audit.ensures.does c.from_residual-in_err-insert_audit.ensures.0;
}

pub returns : goal.returns
returns g c = record {
  does = does_both g.S.Store c.args.tx.now c.edit_if_any.new.tx c.insert_audit.new.tx _ _ tt _ _ _ c.in_ok-edit_if_any.ensures.does c.in_ok-insert_audit.ensures.does
      (λ old _ new one two. writes c.args.edits.now c.args.columns.now old new (λ lists are. two _ (one lists are)));
}
