use Rattle.scim_store_tables.proofs.MigrateLemmas.{migrates}
use Rattle.scim_store_tables.proofs.StepLemmas.{does_then}
use Rattle.scim_store_tables.proofs.migrating.migrate_inside.Goals as goal

pub returns : goal.returns
returns g c =
    record { does = does_then g.S.Store c.args.tx.now c.add_secret.new.tx c.set_version.new.tx _ c.set_version.result _ _ _ c.in_ok-add_secret.ensures.does c.set_version.ensures.does migrates }
