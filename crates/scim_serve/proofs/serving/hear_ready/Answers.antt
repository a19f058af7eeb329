use Rattle.std.proofs.Common.{rules, ◌≡◌, ◌∙◌, sym, ap, subst, List, [], ◌∷◌, ◌++◌, append_assoc, map}
use Rattle.scim_hub.specs.Events.{HubEvent}
use Rattle.scim_hub.specs.HubStates.{owned_event_of}
use Rattle.scim_hub.specs.declared.owned_events.OwnedEvent.{OwnedEvent}
use Rattle.scim_serve.specs.SettledStates.{IsSettledIn}
use Rattle.scim_serve.specs.code.Served.{IsReached}
use Rattle.scim_serve.proofs.ReachedLemmas.{reached_same}
use Rattle.scim_serve.proofs.serving.hear_ready.Goals as goal

pub returns-clause-reached : goal.returns-clause-reached
returns-clause-reached g c = λ known honest start may seen based told reached.
    let written = g.P.Peers.written in
    let takes = g.P.Peers.takes_all in
    let closed = g.P.Peers.is_closed in
    let hub = c.args.hub.now in
    let hub_then = c.hear_all.new.hub in
    let peers = c.args.peers.now in
    let mid = c.gather.new.peers in
    let peers_then = c.hear_all.new.peers in
    let event = owned_event_of c.args.event in
    let gathered = c.gather.ensures.gathered known in
    let ready = gathered.0 in
    let pushed = rw c.unwrap.ensures at c.push.ensures.items in
    let empty : c.in-Some.events.items ≡ [] = search rules in
    let items : c.as_slice.result.now ≡ c.args.event ∷ ready =
    c.as_slice.ensures.value ∙ gathered.1 ∙ ap (λ (xs : List OwnedEvent). xs ++ ready) (pushed ∙ ap (λ (xs : List OwnedEvent). xs ++ c.args.event ∷ []) empty) in
    let same : g.P.Peers.seen peers_then ≡ seen ++ map owned_event_of c.as_slice.result.now =
    c.hear_all.ensures.seen known ∙ gathered.2 ∙ ap (λ (s : List HubEvent). s ++ map owned_event_of ready) told
    ∙ append_assoc seen (event ∷ []) (map owned_event_of ready) ∙ ap (λ (xs : List OwnedEvent). seen ++ map owned_event_of xs) (sym items) in
    let leads = c.hear_all.ensures.leads known honest in
    subst (λ (s : List HubEvent). IsReached start may s (written peers_then) (takes peers_then) (closed peers_then) c.hear_all.new.waiting
    hub_then.service.policy hub_then.tokens (IsSettledIn g.S.Shelf.stands g.S.Shelf.has_round hub_then)) (sym same)
    (leads.reached start may seen based
    (reached_same start may seen (written peers) (takes peers) (closed peers) c.args.waiting.now hub.service.policy hub.tokens (IsSettledIn g.S.Shelf.stands g.S.Shelf.has_round hub)
    (written mid) (takes mid) (closed mid) (c.gather.ensures.written known) (c.gather.ensures.takes known) (c.gather.ensures.closed known) reached))
