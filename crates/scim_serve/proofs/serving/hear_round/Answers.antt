use Rattle.std.proofs.Common.{◌≡◌, ◌∙◌, sym, ap, subst, ℕ, List, ◌++◌, map, take, length}
use Rattle.std.specs.Prelude.{min}
use Rattle.std.proofs.lemmas.List.{take_min}
use Rattle.scim_hub.specs.Events.{Runs}
use Rattle.scim_hub.specs.HubStates.{owned_event_of, result_of}
use Rattle.scim_hub.specs.declared.events.EventAnswer.{EventAnswer}
use Rattle.scim_hub.specs.declared.owned_events.OwnedEvent.{OwnedEvent}
use Rattle.scim_serve.specs.SettledStates.{IsSettledIn}
use Rattle.scim_serve.specs.code.Served.{IsReached}
use Rattle.scim_serve.proofs.ReachedLemmas.{reached_run}
use Rattle.scim_serve.proofs.serving.hear_round.Goals as goal

pub returns-in-Ok-clause-leads : goal.returns-in-Ok-clause-leads
returns-in-Ok-clause-leads g c = λ known honest. record {
  reached = λ start may seen based reached.
      let written = g.P.Peers.written in
      let takes = g.P.Peers.takes_all in
      let closed = g.P.Peers.is_closed in
      let peers = c.args.peers.now in
      let peers_then = c.deliver_all.new.peers in
      let hub = c.args.hub.now in
      let hub_then = c.round.new.self in
      let policy = hub.service.policy in
      let base = hub.service.base in
      let events = c.args.events.now in
      let answers = c.as_slice.result.now in
      let heard = map owned_event_of (take (length answers) events) in
      let more = map result_of answers in
      let size : c.len.result ≡ length answers = c.len.ensures ∙ sym c.as_slice.ensures.len in
      let same : take (length answers) events ≡ take c.min.result events =
      sym (ap (λ (n : ℕ). take n events) (c.min.ensures ∙ ap (λ (n : ℕ). min n (length events)) size) ∙ take_min (length answers) events) in
      let kept = c.round.ensures.keeps in
      subst (λ (xs : List OwnedEvent). IsReached start may (seen ++ map owned_event_of xs) (written peers_then) (takes peers_then) (closed peers_then) c.deliver_all.new.waiting
      hub_then.service.policy hub_then.tokens (IsSettledIn g.S.Shelf.stands g.S.Shelf.has_round hub_then)) same
      (reached_run start may seen (written peers) (written peers_then) (takes peers) (takes peers_then) (closed peers) (closed peers_then) c.args.waiting.now c.deliver_all.new.waiting
      policy hub_then.service.policy hub.tokens hub_then.tokens (IsSettledIn g.S.Shelf.stands g.S.Shelf.has_round hub) (IsSettledIn g.S.Shelf.stands g.S.Shelf.has_round hub_then) heard more kept.policy kept.tokens
      (λ entries state knows is.
      let step = c.in-Ok.ensures.ran entries state knows is.0 is.1 honest in
      let runs = subst (λ (xs : List EventAnswer). Runs policy base entries state (map owned_event_of (take (length xs) events)) (map result_of xs) step.0)
      (sym c.as_slice.ensures.value) step.2 in (
        step.0,
        (step.1, c.round.ensures.settled state.store is.0.store is.1),
        subst (λ (b : List ℕ). Runs policy b entries state heard more step.0) (sym based) runs,
        λ results served. c.deliver_all.ensures.served known policy base entries start.state state step.0 seen results runs served,
      ))
      reached);
}
