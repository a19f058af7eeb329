use Rattle.std.proofs.Common.{arith, ◌≡◌, ◌∙◌, sym, ap, subst, ◌-◌, List, ◌++◌, map, take, drop, length, length-drop}
use Rattle.std.proofs.lemmas.List.{map-append, take_all, take-append-drop}
use Rattle.scim_hub.specs.Events.{HubEvent}
use Rattle.scim_hub.specs.HubStates.{owned_event_of}
use Rattle.scim_hub.specs.declared.owned_events.OwnedEvent.{OwnedEvent}
use Rattle.scim_serve.specs.code.Leads.{Leads}
use Rattle.scim_serve.proofs.LeadLemmas.{leads_both}
use Rattle.scim_serve.proofs.serving.+hear_all.Goals as goal

pub returns-clause-leads : goal.returns-clause-leads
returns-clause-leads g t c = λ known honest.
    let written = g.P.Peers.written in
    let takes = g.P.Peers.takes_all in
    let closed = g.P.Peers.is_closed in
    let stands = g.S.Shelf.stands in
    let has_round = g.S.Shelf.has_round in
    let events = c.args.events.now in
    let count = c.hear_round-count.result in
    let round = c.hear_round-count.new in
    let rest = c.hear_all.new in
    let left = take (length events - count) (drop count events) in
    let all : left ≡ drop count events = take_all (length events - count) (drop count events) (omega (arith, length-drop count events)) in
    let joined : map owned_event_of (take count events) ++ map owned_event_of left ≡ map owned_event_of events =
    sym (map-append owned_event_of (take count events) left)
    ∙ ap (map owned_event_of) (ap (λ (xs : List OwnedEvent). take count events ++ xs) all ∙ take-append-drop count events) in
    subst (λ (xs : List HubEvent). Leads written takes closed stands has_round xs c.args.peers.now rest.peers c.args.waiting.now rest.waiting c.args.hub.now rest.hub) joined
    (leads_both written takes closed stands has_round (map owned_event_of (take count events)) (map owned_event_of left) c.args.peers.now round.peers rest.peers
    c.args.waiting.now round.waiting rest.waiting c.args.hub.now round.hub rest.hub c.hear_round-count.ensures.keeps.base
    (c.hear_round-count.ensures.leads known (c.hear_all.ensures.honest honest))
    (c.hear_all.ensures.leads known honest))
