use Rattle.scim_view.specs.View.{visible_attributes}
use Rattle.scim_view.proofs.views.visible_attributes.Goals as goal

pub returns : goal.returns
unfolding visible_attributes
returns c = rw (c.part.ensures.value, c.kind-kind.ensures) at c.restrict_by.ensures.whole
