use Rattle.std.proofs.Common.{rules}
use Rattle.scim_sockets.proofs.TotalLemmas.{counted_change}
use Rattle.scim_sockets.proofs.open_connections.Open.shut.Goals as goal

pub invariant_of-self : goal.invariant_of-self
invariant_of-self c =
    let was = c.args.self.now in
    let changed = c.shut.new.self in record {
      counted = counted_change was.by_number _ was.next was.total _ _ c.in-Some.connection.now changed was.counted (c.get_mut.follows.holds changed) (search rules) c.weight.ensures.light (search rules);
    }
