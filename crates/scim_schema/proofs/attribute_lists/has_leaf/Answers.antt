use Rattle.scim_schema.proofs.LeafLemmas.{Decides-contains_leaf}
use Rattle.scim_schema.proofs.attribute_lists.has_leaf.Goals as goal

pub returns : goal.returns
returns c = Decides-contains_leaf _ _ _ _ c.leaves.ensures c.contains.ensures.cases
