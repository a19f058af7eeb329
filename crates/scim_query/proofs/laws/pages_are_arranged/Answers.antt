use Rattle.scim_query.proofs.ArrangedLemmas.{page_arranged}
use Rattle.scim_query.proofs.laws.pages_are_arranged.Goals as goal

pub returns : goal.returns
returns c = page_arranged
