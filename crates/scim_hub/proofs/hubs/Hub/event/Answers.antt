use Rattle.std.proofs.Common.{[]}
use Rattle.std.proofs.lemmas.Result.{err_from_is_err_and}
use Rattle.scim_hub.specs.Events.{absent, joined, set}
use Rattle.scim_hub.proofs.EventLemmas.{joins, joins_not, leaves, leaves_not}
use Rattle.scim_hub.proofs.hubs.Hub.event.Goals as goal

pub returns-in_err-join-in-Joined-clause-heard : goal.returns-in_err-join-in-Joined-clause-heard
returns-in_err-join-in-Joined-clause-heard g c entries state knows is honest =
    let p = err_from_is_err_and c.from_residual.result c.from_residual.ensures.1 in
    let n = c.args.event.now.connection in
    let j = joins_not (state.connections n) n state c.in_err-join-in-Joined.field-0.0 c.join.new.self (c.in_err-join-in-Joined.ensures state.connections is.connections) in
    (state, record { store = is.store; is_store = is.is_store; connections = j.0 }, rw (p.1, p.2, c.in-Joined.is) j.1)

pub returns-in_err-leave-in-Left-clause-heard : goal.returns-in_err-leave-in-Left-clause-heard
returns-in_err-leave-in-Left-clause-heard g c entries state knows is honest =
    let p = err_from_is_err_and c.from_residual-in_err-leave-in-Left.result c.from_residual-in_err-leave-in-Left.ensures.1 in
    let n = c.args.event.now.connection in
    let j = leaves_not (state.connections n) n state c.in_err-leave-in-Left.field-0.0 c.leave.new.self (c.in_err-leave-in-Left.ensures state.connections is.connections) in
    (state, record { store = is.store; is_store = is.is_store; connections = j.0 }, rw (p.1, p.2, c.in-Left.is) j.1)

pub returns-in_ok-join-in-Joined-clause-heard : goal.returns-in_ok-join-in-Joined-clause-heard
returns-in_ok-join-in-Joined-clause-heard g c entries state knows is honest =
    let n = c.args.event.now.connection in
    let j = joins (state.connections n) n state c.in_ok-join-in-Joined.field-0 c.join.new.self (c.in_ok-join-in-Joined.ensures state.connections is.connections) in (
      record { connections = set n (joined [] []) state.connections; store = state.store },
      record { store = is.store; is_store = is.is_store; connections = j.0 },
      rw (c.in-Joined.is, c.new.ensures.items) j.1,
    )

pub returns-in_ok-leave-in-Left-clause-heard : goal.returns-in_ok-leave-in-Left-clause-heard
returns-in_ok-leave-in-Left-clause-heard g c entries state knows is honest =
    let n = c.args.event.now.connection in
    let j = leaves (state.connections n) n state c.in_ok-leave-in-Left.field-0 c.leave.new.self (c.in_ok-leave-in-Left.ensures state.connections is.connections) in (
      record { connections = set n absent state.connections; store = state.store },
      record { store = is.store; is_store = is.is_store; connections = j.0 },
      rw (c.in-Left.is, c.new-in-Left.ensures.items) j.1,
    )
