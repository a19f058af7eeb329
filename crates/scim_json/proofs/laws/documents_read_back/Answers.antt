use Rattle.scim_json.proofs.Kept.{kept_reads_back}
use Rattle.scim_json.proofs.laws.documents_read_back.Goals as goal

pub returns : goal.returns
returns c = kept_reads_back
