use Rattle.std.proofs.Common.{[], refl}
use Rattle.scim_shelf.proofs.memory.MemoryShelf.new.Goals as goal

pub returns : goal.returns
returns c =
    let made = c.in_ok-collection.ensures in
    (record { resources = made.0; audit = [] }, record { members = made.1; keyed = made.2.keyed_apart; no_rows = refl }, (made.2, c.new.ensures.items))
