use Rattle.sqlite.specs.Held.{state}
use Rattle.sqlite.proofs.StateLemmas.{survives_weaker}
use Rattle.scim_store_tables.specs.Opening.{MakesTables}
use Rattle.scim_store_tables.specs.Steps.{Leaves}
use Rattle.scim_store_tables.proofs.Facts.{goes_then}
use Rattle.scim_store.specs.Beginning.{Begins}
use Rattle.scim_store.proofs.BeginLemmas.{became_begun, leaves_begun}
use Rattle.scim_store.proofs.creation.begin_store.Goals as goal

pub returns-clause-made : goal.returns-clause-made
returns-clause-made g c clean = goes_then c.create_tables.result (became_begun (state g.S.Store c.args.conn.now) (state g.S.Store c.create_tables.new.conn)) (c.create_tables.ensures.made clean)

pub returns-clause-crash : goal.returns-clause-crash
returns-clause-crash g c =
    let old = state g.S.Store c.args.conn.now in
    survives_weaker old (state g.S.Store c.create_tables.new.conn) (Leaves MakesTables old.now) (Leaves Begins old.now) (λ _ trees leaves. leaves_begun old.now trees leaves) c.create_tables.ensures.crash

-- by name, so that a body that breaks it is refused at once
pub returns-clause-idle : goal.returns-clause-idle
returns-clause-idle g c = c.create_tables.ensures.idle

-- by name, so that a body that breaks it is refused at once
pub returns-clause-undone : goal.returns-clause-undone
returns-clause-undone g c = c.create_tables.ensures.undone
