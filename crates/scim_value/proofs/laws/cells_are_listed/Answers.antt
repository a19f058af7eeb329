use Rattle.scim_value.proofs.ListingLemmas.{cells_are_listed}
use Rattle.scim_value.proofs.laws.cells_are_listed.Goals as goal

pub returns : goal.returns
returns c = cells_are_listed
