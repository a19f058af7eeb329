use Rattle.std.proofs.Common.{rules}
use Rattle.scim_wire.proofs.chunked.ChunkedPart.after_line.Goals as goal

-- by name, so that a body that breaks it is refused at once
pub returns : goal.returns
returns c = search rules
