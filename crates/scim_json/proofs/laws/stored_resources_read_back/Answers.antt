use Rattle.scim_json.proofs.ReadBack.{stored_resources_read_back}
use Rattle.scim_json.proofs.laws.stored_resources_read_back.Goals as goal

pub returns : goal.returns
returns c = stored_resources_read_back
