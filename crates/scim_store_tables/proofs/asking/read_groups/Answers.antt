use Rattle.sqlite.specs.Held.{state}
use Rattle.scim_store_tables.specs.declared.versions.Version.TheVariants.{Two}
use Rattle.scim_store_tables.proofs.StepLemmas.{both_then}
use Rattle.scim_store_tables.proofs.ReadLemmas.{groups_told}
use Rattle.scim_store_tables.proofs.AskLemmas.{groups, asks_groups}
use Rattle.scim_store_tables.proofs.asking.read_groups.Goals as goal

pub returns-clause-read : goal.returns-clause-read
returns-clause-read g c clean =
    both_then c.ask.result _ _ _ (λ rows was_open reads. groups_told (state g.S.Store c.args.conn.now) (state g.S.Store c.ask.new.conn) rows.items was_open c.args.value.now (λ q is has. rw c.params-to_sql.ensures at (reads Two q is has))) (c.ask.ensures.was_open clean) (c.ask.ensures.read clean)

pub returns-clause-spares : goal.returns-clause-spares
returns-clause-spares g c = c.ask.ensures.spares Two groups asks_groups

pub returns-clause-unchanged : goal.returns-clause-unchanged
returns-clause-unchanged g c clean has = both_then c.ask.result _ _ _ (λ rows was_open reads. (reads Two groups asks_groups (has was_open)).unchanged) (c.ask.ensures.was_open clean) (c.ask.ensures.read clean)
