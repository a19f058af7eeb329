use Rattle.std.proofs.Common.{rules}
use Rattle.scim_sockets.proofs.TotalLemmas.{counted_change}
use Rattle.scim_sockets.proofs.open_connections.Open.write.Goals as goal

pub invariant_of-self-2 : goal.invariant_of-self-2
invariant_of-self-2 c =
    let was = c.args.self.now in
    let changed = c.write-count.new.self in record {
      counted = counted_change was.by_number _ was.next was.total _ _ c.in-Some.connection.now changed was.counted (c.get_mut.follows.holds changed) (search rules) c.weight.ensures.light (search rules);
    }
