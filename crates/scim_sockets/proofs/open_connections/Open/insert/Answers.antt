use Rattle.std.proofs.Common.{rules}
use Rattle.scim_sockets.proofs.TotalLemmas.{counted_more, counted_unchanged}
use Rattle.scim_sockets.proofs.open_connections.Open.insert.Goals as goal

pub invariant_of-self : goal.invariant_of-self
invariant_of-self c =
    let was = c.remove.new.self in record {
      counted = counted_more was.by_number c.insert.new.self was.next was.total _ c.args.number c.args.connection was.counted (search rules) (search rules) c.insert.ensures.was_ordered
          c.remove.ensures.gone c.in-Ok.ensures.entries c.in-Ok.ensures.updates (search rules) c.weight-weight.ensures.light (search rules);
    }

pub invariant_of-self-in-Err : goal.invariant_of-self-in-Err
invariant_of-self-in-Err c =
    let was = c.remove.new.self in record {
      counted = counted_unchanged was.by_number c.insert.new.self was.next was.total was.counted c.in-Err.ensures.err;
    }
