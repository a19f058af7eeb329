use Rattle.scim_line_log.proofs.LogLemmas.{part_and_rest, two_parts}
use Rattle.scim_line_log.proofs.line_logs.LineLog.write_rest.Goals as goal

pub loop-preserved : goal.loop-preserved
loop-preserved g c =
    let fits = rw c.deref.ensures.value at c.in-Ok.ensures.bound in
    let wrote = rw c.deref.ensures.value at c.in-Ok.ensures.bytes in
    let cut = part_and_rest c.loop.self.line.items c.loop.self.written c.in-Ok.count fits in
    let both = two_parts _ _ _ c.loop.invariant.taken _ _ _ _ c.loop.invariant.split c.loop.invariant.writes cut wrote in
    record { taken = _; split = both.0; writes = both.1 }
