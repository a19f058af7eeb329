use Rattle.scim_json.proofs.KeptParts.{kept_parts_read_back}
use Rattle.scim_json.proofs.laws.kept_parts_read_back.Goals as goal

pub returns : goal.returns
returns c = kept_parts_read_back
