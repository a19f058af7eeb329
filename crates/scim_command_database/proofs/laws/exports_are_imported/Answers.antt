use Rattle.scim_command_database.proofs.ImportLemmas.{exports_are_imported}
use Rattle.scim_command_database.proofs.laws.exports_are_imported.Goals as goal

pub returns : goal.returns
returns c = exports_are_imported
