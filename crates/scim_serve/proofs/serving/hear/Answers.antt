use Rattle.std.proofs.Common.{sym, subst, ℕ, List}
use Rattle.scim_shelf.specs.Shelves.{settled}
use Rattle.scim_hub.specs.Events.{HubEvent, Hears}
use Rattle.scim_hub.specs.HubStates.{done, owned_event_of}
use Rattle.scim_serve.specs.SettledStates.{IsSettledIn}
use Rattle.scim_serve.proofs.ReachedLemmas.{reached_event}
use Rattle.scim_serve.proofs.serving.hear.Goals as goal

pub returns-clause-leads : goal.returns-clause-leads
returns-clause-leads g c = λ known honest. record {
  reached = λ start may seen based reached.
      let written = g.P.Peers.written in
      let takes = g.P.Peers.takes_all in
      let closed = g.P.Peers.is_closed in
      let hub = c.args.hub.now in
      let hub_then = c.event-result.new.self in
      let policy = hub.service.policy in
      let event = owned_event_of c.args.event.now in
      let result = done c.event-result.result in
      let kept = c.event-result.ensures.keeps in
      reached_event start may seen (written c.args.peers.now) (written c.deliver.new.peers) (takes c.args.peers.now) (takes c.deliver.new.peers)
      (closed c.args.peers.now) (closed c.deliver.new.peers) c.args.waiting.now c.deliver.new.waiting policy hub_then.service.policy hub.tokens hub_then.tokens
      (IsSettledIn g.S.Shelf.stands g.S.Shelf.has_round hub) (IsSettledIn g.S.Shelf.stands g.S.Shelf.has_round hub_then) event kept.policy kept.tokens
      (λ entries state knows is.
      let step = c.event-result.ensures.heard entries state knows is.0 honest in
      let hears = subst (λ (b : List ℕ). Hears policy b entries event state result step.0) (sym based)
      (subst (λ (s : HubEvent). Hears policy hub.service.base entries s state result step.0) c.event.ensures step.2) in
      (result, step.0, (step.1, c.event-result.ensures.round settled is.1), hears, λ due shut served. c.deliver.ensures.served known policy start.base entries start.state state step.0 seen due shut hears served))
      reached;
}
