use Rattle.scim_sockets.proofs.BusyLemmas.{busy_more}
use Rattle.scim_sockets.proofs.turn_queue.Turns.stop_idle.Goals as goal

pub loop-preserved : goal.loop-preserved
loop-preserved c =
    busy_more c.args.self.now.connections.by_number c.loop.self.connections.by_number c.shut.new.self.connections.by_number c.in-Some.number c.loop.invariant c.in-Some.ensures
    c.shut.ensures.changes.others
