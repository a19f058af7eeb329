use Rattle.scim_view.proofs.LawLemmas.{allowed_leaves}
use Rattle.scim_view.proofs.laws.allowed_leaves_are_seen.Goals as goal

pub returns : goal.returns
returns c = allowed_leaves
