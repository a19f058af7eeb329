use Rattle.std.proofs.Common.{arith, []}
use Rattle.scim_wire.proofs.TrailerLemmas.{lines_feed}
use Rattle.scim_wire.proofs.trailers.TrailerPart.new.Goals as goal

pub returns-clause-goes_on : goal.returns-clause-goes_on
returns-clause-goes_on c = (10, [], (lines_feed 64, omega arith))
