use Rattle.std.proofs.Common.{map, take}
use Rattle.scim_hub.specs.HubStates.{owned_event_of}
use Rattle.scim_command.specs.EventFiles.{AreEventLines}
use Rattle.scim_command.proofs.event_files.events_of_lines.Given as goal

-- the lines so far tell the events so far
abbrev pub invariant-loop-index : goal.invariant-loop-index
invariant-loop-index l = AreEventLines (map (λ x. x.now) (take l.index l.lines)) (map owned_event_of l.events.items)
