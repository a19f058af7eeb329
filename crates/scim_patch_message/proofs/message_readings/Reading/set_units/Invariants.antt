use Rattle.std.proofs.Common.{◌≡◌, map, Ok}
use Rattle.scim_body.specs.Given.{units_given}
use Rattle.scim_patch_message.specs.PathSteps.{set_to}
use Rattle.scim_patch_message.specs.Readings.{both}
use Rattle.scim_patch_message.specs.code.Inside.{read_of}
use Rattle.scim_patch_message.proofs.message_readings.Reading.set_units.Given as goal

-- the units so far are set
abbrev pub invariant-loop-one : goal.invariant-loop-one
invariant-loop-one l = read_of l.self ≡ both (read_of l.fn.self) (Ok (map set_to (units_given l.yielded)))
