use Rattle.std.proofs.Common.{◌∙◌}
use Rattle.scim_body.specs.View.{members_view}
use Rattle.scim_body.specs.BodyValues.{field_in}
use Rattle.scim_body.proofs.BodyLemmas.{collected_at}
use Rattle.scim_body.proofs.values.read_object.Goals as goal

pub loop-sub_attribute-preserved : goal.loop-sub_attribute-preserved
loop-sub_attribute-preserved c =
    c.loop-sub_attribute.invariant
    ∙ collected_at (field_in c.args.kind c.args.attribute (members_view c.args.members.now))
    c.sub_attributes_by_place-sub_attribute-items.result.now c.loop-sub_attribute.sub_attribute-index _ c.loop-sub_attribute-test.true
    c.loop-sub_attribute.fields.items _ c.in_ok-read_sub_attribute.ensures.given
