use Rattle.std.proofs.Common.{◌∙◌, refl, sym, ap, subst, List, ◌++◌}
use Rattle.std.specs.Prelude.{Some, Ok}
use Rattle.std.proofs.lemmas.List.{append-nil}
use Rattle.scim_shelf.specs.Shelves.{settled}
use Rattle.scim_hub.specs.Events.{HubEvent}
use Rattle.scim_serve.specs.declared.peers.PeerEvent.{PeerEvent}
use Rattle.scim_serve.specs.Peers.{told_by}
use Rattle.scim_serve.specs.Serving.{due, is_shut}
use Rattle.scim_serve.specs.SettledStates.{IsSettledIn}
use Rattle.scim_serve.specs.code.Served.{IsReached}
use Rattle.scim_serve.proofs.ServedLemmas.{served_same, served_kept}
use Rattle.scim_serve.proofs.ReachedLemmas.{reached_still, reached_pause}
use Rattle.scim_serve.proofs.serving.attend.Goals as goal

pub returns-in-Ready-clause-reached : goal.returns-in-Ready-clause-reached
returns-in-Ready-clause-reached g c = λ known honest start seen based told reached.
    let written = g.P.Peers.written in
    let takes = g.P.Peers.takes_all in
    let closed = g.P.Peers.is_closed in
    let hub = c.args.hub.now in
    let IsIn = IsSettledIn g.S.Shelf.stands g.S.Shelf.has_round hub in
    let e = c.flush.ensures in
    let same_seen = e.seen known ∙ told ∙ ap (λ (p : PeerEvent). seen ++ told_by (Ok (Some p))) c.in-Ready.is ∙ append-nil seen in
    subst (λ (events : List HubEvent). IsReached start g.O.Operator.may_reload events (written c.flush.new.peers) (takes c.flush.new.peers) (closed c.flush.new.peers) c.flush.new.waiting
    hub.service.policy hub.tokens IsIn) (sym same_seen)
    (reached_still start g.O.Operator.may_reload seen (written c.args.peers.now) (written c.flush.new.peers) (takes c.args.peers.now) (takes c.flush.new.peers)
    (closed c.args.peers.now) (closed c.flush.new.peers) c.args.waiting.now c.flush.new.waiting hub.service.policy hub.service.policy hub.tokens hub.tokens IsIn IsIn refl refl (λ state is. is)
    (λ state results. served_kept start.state state seen (written c.args.peers.now) (written c.flush.new.peers) (takes c.args.peers.now) (takes c.flush.new.peers)
    (closed c.args.peers.now) (closed c.flush.new.peers) c.args.waiting.now c.flush.new.waiting (λ m. due m results) (λ m. is_shut m results)
    (e.kept known) (λ m taken. e.taken known m (λ apart. taken)) (e.stays known) e.marks (λ m before. e.unfinished m (λ apart. before)) e.next)
    reached)

pub returns-in-Admin-clause-reached : goal.returns-in-Admin-clause-reached
returns-in-Admin-clause-reached g c = λ known honest start seen based told reached.
    let written = g.P.Peers.written in
    let takes = g.P.Peers.takes_all in
    let closed = g.P.Peers.is_closed in
    let hub = c.args.hub.now in
    let hub_then = c.handle.new.hub in
    let peers_then = c.handle.new.peers in
    let waiting = c.args.waiting.now in
    let same = c.handle.ensures.clients known in
    let same_seen = same.seen_same ∙ told ∙ ap (λ (p : PeerEvent). seen ++ told_by (Ok (Some p))) c.in-Admin.is ∙ append-nil seen in
    subst (λ (events : List HubEvent). IsReached start g.O.Operator.may_reload events (written peers_then) (takes peers_then) (closed peers_then) waiting
    hub_then.service.policy hub_then.tokens (IsSettledIn g.S.Shelf.stands g.S.Shelf.has_round hub_then)) (sym same_seen)
    (reached_pause start g.O.Operator.may_reload seen (written c.args.peers.now) (written peers_then) (takes c.args.peers.now) (takes peers_then)
    (closed c.args.peers.now) (closed peers_then) waiting waiting hub.service.policy hub_then.service.policy hub.tokens hub_then.tokens
    (IsSettledIn g.S.Shelf.stands g.S.Shelf.has_round hub) (IsSettledIn g.S.Shelf.stands g.S.Shelf.has_round hub_then) g.O.Operator.may_reload refl
    (λ never. let kept = c.handle.ensures.keeps never in (kept.policy, kept.tokens)) c.handle.ensures.tokens (λ state is. (c.handle.ensures.state state is.0, c.handle.ensures.round settled is.1))
    (λ state results. served_same start.state state seen (written c.args.peers.now) (written peers_then) (takes c.args.peers.now) (takes peers_then)
    (closed c.args.peers.now) (closed peers_then) waiting (λ m. due m results) (λ m. is_shut m results)
    same.written_same (λ m all. sym (same.takes_same m) ∙ all) same.closed_same)
    reached)

pub returns-in-Tick-clause-reached : goal.returns-in-Tick-clause-reached
returns-in-Tick-clause-reached g c = λ known honest start seen based told reached.
    let written = g.P.Peers.written in
    let takes = g.P.Peers.takes_all in
    let closed = g.P.Peers.is_closed in
    let hub = c.args.hub.now in
    let hub_then = c.handle-in-Tick.new.hub in
    let peers_then = c.handle-in-Tick.new.peers in
    let waiting = c.args.waiting.now in
    let same = c.handle-in-Tick.ensures.clients known in
    let same_seen = same.seen_same ∙ told ∙ ap (λ (p : PeerEvent). seen ++ told_by (Ok (Some p))) c.in-Tick.is ∙ append-nil seen in
    subst (λ (events : List HubEvent). IsReached start g.O.Operator.may_reload events (written peers_then) (takes peers_then) (closed peers_then) waiting
    hub_then.service.policy hub_then.tokens (IsSettledIn g.S.Shelf.stands g.S.Shelf.has_round hub_then)) (sym same_seen)
    (reached_pause start g.O.Operator.may_reload seen (written c.args.peers.now) (written peers_then) (takes c.args.peers.now) (takes peers_then)
    (closed c.args.peers.now) (closed peers_then) waiting waiting hub.service.policy hub_then.service.policy hub.tokens hub_then.tokens
    (IsSettledIn g.S.Shelf.stands g.S.Shelf.has_round hub) (IsSettledIn g.S.Shelf.stands g.S.Shelf.has_round hub_then) g.O.Operator.may_reload refl
    (λ never. let kept = c.handle-in-Tick.ensures.keeps never in (kept.policy, kept.tokens)) c.handle-in-Tick.ensures.tokens (λ state is. (c.handle-in-Tick.ensures.state state is.0, c.handle-in-Tick.ensures.round settled is.1))
    (λ state results. served_same start.state state seen (written c.args.peers.now) (written peers_then) (takes c.args.peers.now) (takes peers_then)
    (closed c.args.peers.now) (closed peers_then) waiting (λ m. due m results) (λ m. is_shut m results)
    same.written_same (λ m all. sym (same.takes_same m) ∙ all) same.closed_same)
    reached)
