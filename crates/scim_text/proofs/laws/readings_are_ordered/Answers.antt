use Rattle.scim_text.proofs.OrderLemmas.{readings_are_ordered}
use Rattle.scim_text.proofs.laws.readings_are_ordered.Goals as goal

pub returns-clause-total : goal.returns-clause-total
returns-clause-total c = readings_are_ordered
