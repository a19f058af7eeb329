use Rattle.scim_serve.proofs.LawLemmas.{runs_without_reload}
use Rattle.scim_serve.proofs.laws.runs_without_reload.Goals as goal

pub returns : goal.returns
returns c = runs_without_reload
