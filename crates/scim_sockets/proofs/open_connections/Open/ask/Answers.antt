use Rattle.std.proofs.Common.{rules}
use Rattle.scim_sockets.proofs.TotalLemmas.{counted_same}
use Rattle.scim_sockets.proofs.open_connections.Open.ask.Goals as goal

pub invariant_of-self : goal.invariant_of-self
invariant_of-self c =
    let was = c.args.self.now in
    let changed = c.ask.new.self in record {
      counted = counted_same was.by_number _ was.next was.total _ c.in-Some.connection.now changed was.counted (c.get_mut.follows.holds changed) (search rules) (search rules);
    }
