use Rattle.std.proofs.Common.{◌<◌, length, map, arith}
use Rattle.scim_hub.specs.HubStates.{owned_event_of}
use Rattle.scim_command.proofs.LineLemmas.{told_more, faulty_at}
use Rattle.scim_command.proofs.event_files.events_of_lines.Goals as goal

pub returns-in-None-clause-faulty : goal.returns-in-None-clause-faulty
returns-in-None-clause-faulty c =
    let inside : c.loop-index.index < length c.args.lines.now = omega (arith, c.loop-index-test.true) in
    faulty_at c.args.lines.now c.loop-index.index _ (map owned_event_of c.loop-index.events.items) inside c.loop-index.invariant (rw c.in-None.is at c.in_ok-event.ensures)

pub loop-index-preserved : goal.loop-index-preserved
loop-index-preserved c =
    let inside : c.loop-index.index < length c.args.lines.now = omega (arith, c.loop-index-test.true) in
    told_more c.args.lines.now c.loop-index.index _ c.loop-index.events.items c.push.new.values.items c.in-Some.event inside c.in_ok-push-in-Some.ensures.items c.loop-index.invariant
    (rw c.in-Some.is at c.in_ok-event.ensures)
