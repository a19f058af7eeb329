use Rattle.scim_view.proofs.LawLemmas.{denied_leaves, denied_attributes}
use Rattle.scim_view.proofs.laws.denied_values_are_unseen.Goals as goal

pub returns : goal.returns
returns c = record { leaves = denied_leaves; attributes = denied_attributes }
