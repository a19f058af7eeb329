use Rattle.scim_headline.proofs.ServedLemmas.{clients_can_not_tell}
use Rattle.scim_headline.proofs.clients_can_not_tell.Goals as goal

pub returns : goal.returns
returns c = clients_can_not_tell
