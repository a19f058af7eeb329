use Rattle.scim_text.proofs.OrderLemmas.{printed_in_order}
use Rattle.scim_text.proofs.laws.printed_moments_are_ordered.Goals as goal

pub returns : goal.returns
returns c = printed_in_order
