use Rattle.scim_noninterference.proofs.LawLemmas.{one_request}
use Rattle.scim_noninterference.proofs.one_request.Goals as goal

pub returns : goal.returns
returns c = one_request
