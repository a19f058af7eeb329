use Rattle.std.proofs.Common.{◌≡◌, map, take, string_bytes}
use Rattle.std.specs.List.{flat_map}
use Rattle.scim_hub.specs.HubStates.{output_of}
use Rattle.scim_command.specs.Outputs.{deed_line}
use Rattle.scim_command.proofs.outputs.output_lines.Given as goal

-- the lines so far
abbrev pub invariant-loop-output : goal.invariant-loop-output
invariant-loop-output l = string_bytes l.text ≡ flat_map deed_line (map output_of (take l.output-index l.outputs))
