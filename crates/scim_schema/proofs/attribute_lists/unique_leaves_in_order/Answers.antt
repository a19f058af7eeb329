use Rattle.scim_schema.proofs.UniqueLeafLemmas.{permuted_leaves, ascending_leaves}
use Rattle.scim_schema.proofs.attribute_lists.unique_leaves_in_order.Goals as goal

pub returns : goal.returns
returns c = record { permuted = permuted_leaves; ascending = ascending_leaves }
