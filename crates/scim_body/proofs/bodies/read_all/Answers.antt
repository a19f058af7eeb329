use Rattle.std.proofs.Common.{ap}
use Rattle.scim_body.specs.View.{members_view}
use Rattle.scim_schema.specs.Table.{attributes}
use Rattle.scim_body.specs.BodyValues.{collected}
use Rattle.scim_body.specs.Bodies.{all_given, given_of}
use Rattle.scim_body.specs.Given.{units_given}
use Rattle.scim_body.proofs.BodyLemmas.{read_first}
use Rattle.scim_body.proofs.bodies.read_all.Goals as goal

pub returns-clause-given : goal.returns-clause-given
unfolding all_given
returns-clause-given c =
    read_first (units_given c.new-given.result.items) (collected (given_of c.args.kind (members_view c.args.members.now)) (attributes c.args.kind)) _
    (ap units_given c.new-given.ensures.items) (rw c.attributes.ensures at c.in_ok-read_attributes.ensures.given)
