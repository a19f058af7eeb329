use Rattle.scim_json.proofs.KeptParts.{kept_parts_determine}
use Rattle.scim_json.proofs.laws.kept_parts_determine.Goals as goal

pub returns : goal.returns
returns c = kept_parts_determine
