use Rattle.scim_headline.proofs.OutputLemmas.{outputs_are_for_their_connection}
use Rattle.scim_headline.proofs.outputs_are_for_their_connection.Goals as goal

pub returns : goal.returns
returns c = outputs_are_for_their_connection
