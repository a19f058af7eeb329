use Rattle.scim_shelf.proofs.StoreLemmas.{keyed_nil}
use Rattle.scim_shelf.proofs.collections.Collection.new.Goals as goal

pub returns : goal.returns
returns c = record { resources = c.new.ensures.empty; keyed_apart = keyed_nil; kinds = c.new-4.ensures; owners = c.new-2.ensures; noted = c.new-3.ensures }
