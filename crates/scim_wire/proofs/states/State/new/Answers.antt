use Rattle.std.proofs.Common.{[], refl}
use Rattle.scim_wire.proofs.states.State.new.Goals as goal

pub returns : goal.returns
returns c = (c.new.ensures [], refl)
