-- The state of the reader of a message.
use Rattle.std.specs.Prelude.{List, map, Option, None, Some, Result, Ok, Err}
use Rattle.scim_patch_steps.specs.declared.patches.Step.{Step as KeptStep}
use Rattle.scim_patch_steps.specs.Patch.{Patch}
use Rattle.scim_patch_steps.specs.Kept.{Kept, step_of, patch_of}
use Rattle.scim_patch_message.specs.declared.faults.PatchFault.{PatchFault}
use Rattle.scim_patch_message.specs.declared.message_readings.Reading.{Reading}
use Rattle.scim_patch_message.specs.Readings.{Read}

-- the fault; the steps if there is no fault
abbrev pub steps_or_fault : List KeptStep → Option PatchFault → Read
steps_or_fault steps None = Ok (map step_of steps)
steps_or_fault steps (Some f) = Err f

-- the steps of a reading, or the fault of the reading if it has one
abbrev pub read_of : Reading → Read
read_of r = steps_or_fault r.steps.items r.fault

-- the patch or the fault that a result in code represents
abbrev pub answered : Result Kept PatchFault → Result Patch PatchFault
answered (Ok p) = Ok (patch_of p)
answered (Err f) = Err f
