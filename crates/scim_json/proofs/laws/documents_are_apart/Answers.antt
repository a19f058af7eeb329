use Rattle.scim_json.proofs.Back.{documents_are_apart}
use Rattle.scim_json.proofs.laws.documents_are_apart.Goals as goal

pub returns : goal.returns
returns c = documents_are_apart
