use Rattle.scim_headline.proofs.KeptLemmas.{promises_are_kept}
use Rattle.scim_headline.proofs.promises_are_kept.Goals as goal

pub returns : goal.returns
returns c = promises_are_kept
