use Rattle.std.proofs.Common.{◌≡◌, ◌∙◌, subst}
use Rattle.sqlite.specs.Held.{state}
use Rattle.scim_store.specs.Committing.{HasStore}
use Rattle.scim_command_database.specs.Archives.{without_audit}
use Rattle.scim_command_database.specs.Exports.{export_text}
use Rattle.scim_command_database.proofs.ArchiveLemmas.{archive_is, archive_is_new}
use Rattle.scim_command_database.proofs.archiving.archive.Goals as goal

pub returns-in-Ok-clause-archived : goal.returns-in-Ok-clause-archived
returns-in-Ok-clause-archived g c store stands honest is =
    let base = c.args.base.now in
    let text = c.as_str.result.now in
    let own : text ≡ export_text store.resources = c.as_str.ensures.value ∙ c.in_ok-text.ensures.text store stands honest in
    let did = c.in-Ok.ensures in record {
      holds = λ clean. let made = did.kept clean in subst (HasStore base (state g.T.Store c.import.new.connection)) (archive_is base text store is own made.0 made.1 made.2 made.3) made.4;
      is_open = did.is_open;
      durable = λ clean trees left. let leaves = did.durable clean trees left in (leaves.2.1.0, leaves.2.1.1, leaves.2.1.3 (without_audit store) (archive_is_new base text store is own leaves.0 leaves.1));
    }
