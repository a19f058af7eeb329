use Rattle.scim_text.proofs.Printed.{printed_reads_back}
use Rattle.scim_text.proofs.laws.printed_reads_back.Goals as goal

pub returns : goal.returns
returns c = printed_reads_back
