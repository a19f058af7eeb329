use Rattle.scim_view.proofs.LawLemmas.{nothing_comes_into_view}
use Rattle.scim_view.proofs.laws.nothing_comes_into_view.Goals as goal

pub returns : goal.returns
returns c = nothing_comes_into_view
