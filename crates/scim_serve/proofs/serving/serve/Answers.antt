use Rattle.std.proofs.Common.{rules, ◌≡◌, ◌∙◌, refl, sym, ap, subst, List, [], ◌++◌}
use Rattle.std.specs.Prelude.{Option, Some, Ok}
use Rattle.scim_hub.specs.Events.{HubEvent}
use Rattle.scim_serve.specs.declared.peers.PeerEvent.{PeerEvent}
use Rattle.scim_serve.specs.Peers.{told_by}
use Rattle.scim_serve.specs.SettledStates.{IsSettledIn}
use Rattle.scim_serve.specs.code.Served.{IsReached, Start}
use Rattle.scim_serve.proofs.EventLemmas.{nothing_told}
use Rattle.scim_serve.proofs.ServedLemmas.{served_first}
use Rattle.scim_serve.proofs.ReachedLemmas.{reached_same, reached_served}
use Rattle.scim_serve.proofs.serving.serve.Goals as goal

pub loop-init : goal.loop-init
loop-init g c = record {
  base = refl;
  keeps = λ never. record { policy = refl; base = refl; tokens = refl };
  served = λ known entries state unseen unwritten knows is settles honest. record {
    occurrences = [];
    results = [];
    entries = entries;
    state = state;
    heard_is = sym unseen;
    none_reloaded = λ never. refl;
    knows = knows;
    is_in = (is, settles);
    runs = (refl, refl, refl, refl);
    served = served_first state (g.P.Peers.seen c.args.peers.now) (g.P.Peers.written c.args.peers.now) (g.P.Peers.takes_all c.args.peers.now) (g.P.Peers.is_closed c.args.peers.now)
        c.new-waiting.result unseen unwritten c.new-waiting.ensures.none;
  };
  ended = λ e. e;
  honest = λ h. h;
}

pub loop-preserved : goal.loop-preserved
loop-preserved g c = record {
  base = c.attend.ensures.base ∙ c.loop.invariant.base;
  keeps = λ never.
      let kept = c.loop.invariant.keeps never in
      let keeps = c.attend.ensures.keeps never in
      record { policy = keeps.policy ∙ kept.policy; base = keeps.base ∙ kept.base; tokens = keeps.tokens ∙ kept.tokens };
  served = λ known entries state unseen unwritten knows is settles honest.
      let written = g.P.Peers.written in
      let takes = g.P.Peers.takes_all in
      let closed = g.P.Peers.is_closed in
      let hub = c.loop.hub in
      let hub_then = c.attend.new.hub in
      let before = g.P.Peers.seen c.loop.peers in
      let start : Start = record { base = c.args.hub.now.service.base; policy = c.args.hub.now.service.policy; entries = entries; state = state } in
      let next = c.in_ok-peer_event.ensures in
      let told : g.P.Peers.seen c.next.new.self ≡ before ++ told_by (Ok (Some c.in-Some.peer_event)) =
      next.seen known ∙ ap (λ (o : Option PeerEvent). before ++ told_by (Ok o)) c.in-Some.is in
      let reached = c.attend.ensures.reached known honest start before (sym c.loop.invariant.base) told
      (reached_same start g.O.Operator.may_reload before (written c.loop.peers) (takes c.loop.peers) (closed c.loop.peers)
      c.loop.waiting hub.service.policy hub.tokens (IsSettledIn g.S.Shelf.stands g.S.Shelf.has_round hub) (written c.next.new.self) (takes c.next.new.self) (closed c.next.new.self)
      (next.written known) (next.takes known) (next.closed known)
      (c.loop.invariant.served known entries state unseen unwritten knows is settles (c.attend.ensures.honest honest))) in
      reached;
  ended = search rules;
  honest = λ h. c.loop.invariant.honest (c.attend.ensures.honest h);
}

pub returns-in-End-clause-served : goal.returns-in-End-clause-served
returns-in-End-clause-served g c = λ known entries state unseen unwritten knows is settles honest.
    let written = g.P.Peers.written in
    let takes = g.P.Peers.takes_all in
    let closed = g.P.Peers.is_closed in
    let hub = c.loop.hub in
    let hub_then = c.attend.new.hub in
    let before = g.P.Peers.seen c.loop.peers in
    let start : Start = record { base = c.args.hub.now.service.base; policy = c.args.hub.now.service.policy; entries = entries; state = state } in
    let next = c.in_ok-peer_event.ensures in
    let told : g.P.Peers.seen c.next.new.self ≡ before ++ told_by (Ok (Some c.in-Some.peer_event)) =
    next.seen known ∙ ap (λ (o : Option PeerEvent). before ++ told_by (Ok o)) c.in-Some.is in
    let reached = c.attend.ensures.reached known honest start before (sym c.loop.invariant.base) told
    (reached_same start g.O.Operator.may_reload before (written c.loop.peers) (takes c.loop.peers) (closed c.loop.peers)
    c.loop.waiting hub.service.policy hub.tokens (IsSettledIn g.S.Shelf.stands g.S.Shelf.has_round hub) (written c.next.new.self) (takes c.next.new.self) (closed c.next.new.self)
    (next.written known) (next.takes known) (next.closed known)
    (c.loop.invariant.served known entries state unseen unwritten knows is settles (c.attend.ensures.honest honest))) in
    reached_served start g.O.Operator.may_reload (g.P.Peers.seen c.attend.new.peers) (written c.attend.new.peers) (takes c.attend.new.peers) (closed c.attend.new.peers)
    c.attend.new.waiting hub_then.service.policy hub_then.tokens (IsSettledIn g.S.Shelf.stands g.S.Shelf.has_round hub_then) reached

pub returns-in_err-peer_event-clause-served : goal.returns-in_err-peer_event-clause-served
returns-in_err-peer_event-clause-served g c = λ known entries state unseen unwritten knows is settles honest.
    let reached = c.loop.invariant.served known entries state unseen unwritten knows is settles honest in
    let same : g.P.Peers.seen c.next.new.self ≡ g.P.Peers.seen c.loop.peers = nothing_told (g.P.Peers.seen c.loop.peers) [] (g.P.Peers.seen c.next.new.self) (c.in_err-peer_event.ensures.seen known) refl in
    let hub = c.loop.hub in
    let start : Start = record { base = c.args.hub.now.service.base; policy = c.args.hub.now.service.policy; entries = entries; state = state } in
    reached_served start g.O.Operator.may_reload (g.P.Peers.seen c.next.new.self) (g.P.Peers.written c.next.new.self) (g.P.Peers.takes_all c.next.new.self) (g.P.Peers.is_closed c.next.new.self)
    c.loop.waiting hub.service.policy hub.tokens (IsSettledIn g.S.Shelf.stands g.S.Shelf.has_round hub)
    (subst (λ (events : List HubEvent). IsReached start g.O.Operator.may_reload events (g.P.Peers.written c.next.new.self) (g.P.Peers.takes_all c.next.new.self)
    (g.P.Peers.is_closed c.next.new.self) c.loop.waiting hub.service.policy hub.tokens (IsSettledIn g.S.Shelf.stands g.S.Shelf.has_round hub)) (sym same)
    (reached_same start g.O.Operator.may_reload (g.P.Peers.seen c.loop.peers) (g.P.Peers.written c.loop.peers) (g.P.Peers.takes_all c.loop.peers) (g.P.Peers.is_closed c.loop.peers)
    c.loop.waiting hub.service.policy hub.tokens (IsSettledIn g.S.Shelf.stands g.S.Shelf.has_round hub) (g.P.Peers.written c.next.new.self) (g.P.Peers.takes_all c.next.new.self) (g.P.Peers.is_closed c.next.new.self)
    (c.in_err-peer_event.ensures.written known) (c.in_err-peer_event.ensures.takes known) (c.in_err-peer_event.ensures.closed known) reached))

pub returns-in_default-clause-served : goal.returns-in_default-clause-served
returns-in_default-clause-served g c = λ known entries state unseen unwritten knows is settles honest.
    let reached = c.loop.invariant.served known entries state unseen unwritten knows is settles honest in
    let same : g.P.Peers.seen c.next.new.self ≡ g.P.Peers.seen c.loop.peers =
    nothing_told (g.P.Peers.seen c.loop.peers) (told_by (Ok c.in_ok-peer_event.field-0)) (g.P.Peers.seen c.next.new.self) (c.in_ok-peer_event.ensures.seen known)
    (ap (λ (o : Option PeerEvent). told_by (Ok o)) c.in_default.is) in
    let hub = c.loop.hub in
    let start : Start = record { base = c.args.hub.now.service.base; policy = c.args.hub.now.service.policy; entries = entries; state = state } in
    reached_served start g.O.Operator.may_reload (g.P.Peers.seen c.next.new.self) (g.P.Peers.written c.next.new.self) (g.P.Peers.takes_all c.next.new.self) (g.P.Peers.is_closed c.next.new.self)
    c.loop.waiting hub.service.policy hub.tokens (IsSettledIn g.S.Shelf.stands g.S.Shelf.has_round hub)
    (subst (λ (events : List HubEvent). IsReached start g.O.Operator.may_reload events (g.P.Peers.written c.next.new.self) (g.P.Peers.takes_all c.next.new.self)
    (g.P.Peers.is_closed c.next.new.self) c.loop.waiting hub.service.policy hub.tokens (IsSettledIn g.S.Shelf.stands g.S.Shelf.has_round hub)) (sym same)
    (reached_same start g.O.Operator.may_reload (g.P.Peers.seen c.loop.peers) (g.P.Peers.written c.loop.peers) (g.P.Peers.takes_all c.loop.peers) (g.P.Peers.is_closed c.loop.peers)
    c.loop.waiting hub.service.policy hub.tokens (IsSettledIn g.S.Shelf.stands g.S.Shelf.has_round hub) (g.P.Peers.written c.next.new.self) (g.P.Peers.takes_all c.next.new.self) (g.P.Peers.is_closed c.next.new.self)
    (c.in_ok-peer_event.ensures.written known) (c.in_ok-peer_event.ensures.takes known) (c.in_ok-peer_event.ensures.closed known) reached))

pub returns-clause-served : goal.returns-clause-served
returns-clause-served g c = λ known entries state unseen unwritten knows is settles honest.
    let hub = c.loop.hub in
    let start : Start = record { base = c.args.hub.now.service.base; policy = c.args.hub.now.service.policy; entries = entries; state = state } in
    reached_served start g.O.Operator.may_reload (g.P.Peers.seen c.loop.peers) (g.P.Peers.written c.loop.peers) (g.P.Peers.takes_all c.loop.peers) (g.P.Peers.is_closed c.loop.peers)
    c.loop.waiting hub.service.policy hub.tokens (IsSettledIn g.S.Shelf.stands g.S.Shelf.has_round hub) (c.loop.invariant.served known entries state unseen unwritten knows is settles honest)
