use Rattle.std.proofs.Common.{◌≡◌, ◌++◌, map}
use Rattle.scim_body.specs.Bodies.{field_given}
use Rattle.scim_body.specs.Given.{units_given}
use Rattle.scim_body.proofs.bodies.push_fields.Given as goal

-- the fields so far are pushed
abbrev pub invariant-loop-field : goal.invariant-loop-field
invariant-loop-field l = units_given l.given.items ≡ units_given l.fn.given.items ++ map field_given l.yielded
