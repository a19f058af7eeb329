use Rattle.std.proofs.Common.{[], subst}
use Rattle.sqlite.specs.Held.{state}
use Rattle.sqlite.specs.State.{ExecutesInside}
use Rattle.scim_store_tables.proofs.OpeningLemmas.{makes_table}
use Rattle.scim_store_tables.proofs.StepLemmas.{does_execute}
use Rattle.scim_store_tables.proofs.creating_tables.create_table.Goals as goal

pub returns : goal.returns
returns g c =
    let old = state g.S.Store c.args.tx.now.conn.now in
    let new = state g.S.Store c.execute.new.self.conn.now in
    record { does = does_execute g.S.Store c.args.tx.now c.execute.new.self _ _ c.execute.result _ c.execute.ensures.same_reference c.execute.ensures.ended c.execute.ensures.runs c.execute.ensures.survives (λ runs. makes_table c.args.table old new c.execute.result (subst (λ text. ExecutesInside 0 text [] old new c.execute.result) c.creation.ensures runs)) }
