use Rattle.scim_text.proofs.MomentInLemmas.{Spells-moment_in, moment_in-Spells}
use Rattle.scim_text.proofs.laws.moment_in_is_spelled.Goals as goal

pub returns : goal.returns
returns c = λ text r. (Spells-moment_in text r, moment_in-Spells text r)
