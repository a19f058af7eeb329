use Rattle.std.proofs.Common.{◌≡◌, drop}
use Rattle.scim_body.specs.View.{members_view}
use Rattle.scim_body.specs.BodyValues.{collected}
use Rattle.scim_body.specs.Bodies.{given_of}
use Rattle.scim_body.specs.Given.{with_given}
use Rattle.scim_body.proofs.bodies.read_attributes.Given as goal

-- what is read and what the attributes that are left give make the whole
abbrev pub invariant-loop-attribute : goal.invariant-loop-attribute
invariant-loop-attribute l =
    with_given l.fn.given.items (collected (given_of l.kind (members_view l.members)) l.attributes)
    ≡ with_given l.given.items (collected (given_of l.kind (members_view l.members)) (drop l.attribute-index l.attributes))
