-- The units that the reader of a body has read so far.
use Rattle.std.specs.Prelude.{◌≡◌, List, ◌++◌, map, Option, None, Some, option_map}
use Rattle.serde_json.specs.Data.{Members, no_members}
use Rattle.scim_schema.specs.declared.Kind.{Kind}
use Rattle.scim_body.specs.declared.bodies.UnitGiven.{UnitGiven}
use Rattle.scim_body.specs.Bodies.{Given, all_given}

-- the specified unit that represents a unit read by the code
abbrev pub unit_given : UnitGiven → Given
unit_given g = record { unit = g.unit; values = g.values.items }

-- the specified units that represent units read by the code
abbrev pub units_given : List UnitGiven → List Given
units_given gs = map unit_given gs

-- the elements of `xs`, followed by the elements in `read`; None if `read` is None
abbrev pub after : {X : Type 0} → List X → Option (List X) → Option (List X)
after xs read = option_map (λ more. xs ++ more) read

-- the units of `gs`, followed by the units in `read`; None if `read` is None
abbrev pub with_given : List UnitGiven → Option (List Given) → Option (List Given)
with_given gs read = after (units_given gs) read

-- the members of an object; no members if there is no object
abbrev pub members_or_none : Option Members → Members
members_or_none None = no_members
members_or_none (Some ms) = ms

-- the units are the result of reading some body for a resource of the kind
abbrev pub AreOfBody : Kind → List UnitGiven → Type 0
AreOfBody kind gs = (ms : Members) × (all_given kind ms ≡ Some (units_given gs))
