use Rattle.std.proofs.Common.{refl}
use Rattle.scim_wire.proofs.StepLemmas.{opening_start}
use Rattle.scim_wire.proofs.head_parts.HeadPart.new.Goals as goal

pub returns : goal.returns
returns c blank = rw c.new.ensures.items (opening_start blank, refl)
