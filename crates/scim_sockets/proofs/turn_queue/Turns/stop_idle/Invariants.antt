use Rattle.scim_sockets.specs.OpenConnections.{KeepsBusy}
use Rattle.scim_sockets.proofs.turn_queue.Turns.stop_idle.Given as goal

-- only connections at rest were shut so far
abbrev pub invariant-loop : goal.invariant-loop
invariant-loop l = KeepsBusy l.fn.self.connections.by_number l.self.connections.by_number
