use Rattle.scim_text.proofs.MomentInLemmas.{one_reading}
use Rattle.scim_text.proofs.laws.one_reading.Goals as goal

pub returns : goal.returns
returns c = one_reading
