use Rattle.std.proofs.Common.{◌∙◌}
use Rattle.scim_body.specs.View.{members_view}
use Rattle.scim_body.specs.Bodies.{given_of}
use Rattle.scim_body.specs.Given.{units_given}
use Rattle.scim_body.proofs.BodyLemmas.{collected_at}
use Rattle.scim_body.proofs.bodies.read_attributes.Goals as goal

pub loop-attribute-preserved : goal.loop-attribute-preserved
loop-attribute-preserved c =
    c.loop-attribute.invariant
    ∙ collected_at (given_of c.args.kind (members_view c.args.members.now)) c.args.attributes.now c.loop-attribute.attribute-index _ c.loop-attribute-test.true
    (units_given c.loop-attribute.given.items) _ c.in_ok-read_given.ensures.given
