use Rattle.std.proofs.Common.{rules}
use Rattle.scim_sockets.proofs.TotalLemmas.{counted_less}
use Rattle.scim_sockets.proofs.open_connections.Open.remove.Goals as goal

pub invariant_of-self-2 : goal.invariant_of-self-2
invariant_of-self-2 c =
    let was = c.args.self.now in record {
      counted = counted_less was.by_number c.remove.new.self was.next was.total _ _ c.in-Some.connection was.counted c.remove.ensures.entries c.remove.ensures.updates
          (search rules) (search rules) (search rules);
    }
