use Rattle.std.proofs.Common.{◌≡◌, map, take, length, string_bytes}
use Rattle.scim_hub.specs.HubStates.{event_of, done}
use Rattle.scim_command.specs.Outputs as spec
use Rattle.scim_command.proofs.outputs.results_text.Given as goal

-- the lines for the results so far
abbrev pub invariant-loop-index : goal.invariant-loop-index
invariant-loop-index l = length l.events ≡ length l.results → string_bytes l.text ≡ spec.results_text (map event_of (take l.index l.events)) (map done (take l.index l.results))
