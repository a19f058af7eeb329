use Rattle.scim_store_tables.proofs.OpeningLemmas.{makes_then}
use Rattle.scim_store_tables.proofs.StepLemmas.{fails_then}
use Rattle.scim_store_tables.proofs.creating_tables.make_tables.Goals as goal

pub returns-in_err-create_last : goal.returns-in_err-create_last
returns-in_err-create_last g c = record {
  does = fails_then g.S.Store c.args.tx.now c.create_first.new.tx c.create_last.new.tx _ _ c.from_residual-in_err-create_last.result _ _ _ c.in_ok-create_first.ensures.does c.in_err-create_last.ensures.does c.from_residual-in_err-create_last.ensures.0;
}

pub returns : goal.returns
returns g c =
    let a = c.create_first.new.tx in
    let b = c.create_last.new.tx in
    let new = c.insert_version.new.tx in
    record {
      does = makes_then g.S.Store c.args.tx.now a new _ c.insert_version.result _ _ _ c.in_ok-create_first.ensures.does
          (makes_then g.S.Store a b new _ c.insert_version.result _ _ _ c.in_ok-create_last.ensures.does c.insert_version.ensures.does);
    }
