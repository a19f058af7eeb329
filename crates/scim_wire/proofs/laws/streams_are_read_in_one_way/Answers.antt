use Rattle.scim_wire.proofs.MessageLemmas.{items_from_stands, items_unique, shut_after}
use Rattle.scim_wire.proofs.laws.streams_are_read_in_one_way.Goals as goal

pub returns : goal.returns
returns c = record { has = items_from_stands; one = items_unique; shut = shut_after }
