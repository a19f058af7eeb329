use Rattle.scim_headline.proofs.HeardLemmas.{connections_can_not_tell}
use Rattle.scim_headline.proofs.connections_can_not_tell.Goals as goal

pub returns : goal.returns
returns c = connections_can_not_tell
