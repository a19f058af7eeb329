use Rattle.std.proofs.Common.{map, take}
use Rattle.std.specs.List.{flat_map}
use Rattle.std.specs.Io.KnownBytes.{Appends}
use Rattle.scim_hub.specs.HubStates.{output_of}
use Rattle.scim_hub.specs.Streams.{text_in}
use Rattle.scim_hub.proofs.writing.write_outputs.Given as goal

-- the texts so far were written
abbrev pub invariant-loop-output : goal.invariant-loop-output
invariant-loop-output g l =
    Appends (g.W.Write.contents l.fn.writer) (g.W.Write.contents l.writer) (flat_map text_in (map output_of (take l.output-index l.outputs)))
