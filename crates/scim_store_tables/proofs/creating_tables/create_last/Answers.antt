use Rattle.scim_store_tables.proofs.OpeningLemmas.{makes_then}
use Rattle.scim_store_tables.proofs.StepLemmas.{fails_then}
use Rattle.scim_store_tables.proofs.creating_tables.create_last.Goals as goal

pub returns-in_err-create_table-2 : goal.returns-in_err-create_table-2
returns-in_err-create_table-2 g c = record {
  does = fails_then g.S.Store c.args.tx.now c.create_table.new.tx c.create_table-2.new.tx _ _ c.from_residual-in_err-create_table-2.result _ _ _ c.in_ok-create_table.ensures.does c.in_err-create_table-2.ensures.does c.from_residual-in_err-create_table-2.ensures.0;
}

pub returns : goal.returns
returns g c =
    let a = c.create_table.new.tx in
    let b = c.create_table-2.new.tx in
    let new = c.create_table-3.new.tx in
    record {
      does = makes_then g.S.Store c.args.tx.now a new _ c.create_table-3.result _ _ _ c.in_ok-create_table.ensures.does
          (makes_then g.S.Store a b new _ c.create_table-3.result _ _ _ c.in_ok-create_table-2.ensures.does c.create_table-3.ensures.does);
    }
