use Rattle.std.proofs.Common.{◌≡◌, map}
use Rattle.std.specs.List.{flat_map}
use Rattle.scim_body.specs.Bodies.{Given}
use Rattle.scim_body.specs.Given.{units_given}
use Rattle.scim_body.proofs.bodies.parts_of.Given as goal

-- what was yielded is taken over
abbrev pub invariant-loop-one : goal.invariant-loop-one
invariant-loop-one l = record {
  units : l.units.items ≡ map (λ (g : Given). g.unit) (units_given l.yielded);
  rows : l.rows.items ≡ flat_map (λ (g : Given). g.values) (units_given l.yielded);
}
