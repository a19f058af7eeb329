use Rattle.scim_text.proofs.Printed.{printed_is_read}
use Rattle.scim_text.proofs.laws.printed_moments_are_read.Goals as goal

pub returns : goal.returns
returns c = printed_is_read
