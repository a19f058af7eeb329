use Rattle.std.proofs.Common.{rules, ◌≡◌, ◌∙◌, ap, List, [], ◌∷◌, ◌++◌, map, take, length}
use Rattle.std.proofs.Math.Seq.{take-nil}
use Rattle.std.proofs.lemmas.List.{nil_from_length}
use Rattle.scim_hub.specs.HubStates.{owned_event_of, result_of}
use Rattle.scim_hub.specs.declared.owned_events.OwnedEvent.{OwnedEvent}
use Rattle.scim_serve.specs.Serving.{due, is_shut}
use Rattle.scim_serve.proofs.RunLemmas.{runs_first, served_none, served_joined}
use Rattle.scim_serve.proofs.ServedLemmas.{served_more}
use Rattle.scim_serve.proofs.serving.+deliver_all.Goals as goal

pub returns-in_default-clause-served : goal.returns-in_default-clause-served
returns-in_default-clause-served g t c = λ known policy base entries first state next seen results runs served.
    let peers = c.args.peers.now in
    let events = c.args.events.now in
    let answers = c.args.answers.now in
    let none : events ≡ [] = nil_from_length events c.in_default.ensures.cases in
    served_none policy base entries first state next seen (map owned_event_of (take (length answers) events)) (g.P.Peers.written peers) (g.P.Peers.takes_all peers) (g.P.Peers.is_closed peers)
    c.args.waiting.now results (map result_of answers)
    (ap (λ (xs : List OwnedEvent). map owned_event_of (take (length answers) xs)) none ∙ ap (map owned_event_of) (take-nil (length answers))) runs served

pub returns-in_default-split_first-clause-served : goal.returns-in_default-split_first-clause-served
returns-in_default-split_first-clause-served g t c = λ known policy base entries first state next seen results runs served.
    let peers = c.args.peers.now in
    let events = c.args.events.now in
    let answers = c.args.answers.now in
    let none : answers ≡ [] = nil_from_length answers c.in_default-split_first.ensures.cases in
    let taken : map owned_event_of (take (length answers) events) ≡ [] = rw none in
    served_none policy base entries first state next seen (map owned_event_of (take (length answers) events)) (g.P.Peers.written peers) (g.P.Peers.takes_all peers) (g.P.Peers.is_closed peers)
    c.args.waiting.now results (map result_of answers) taken runs served

pub returns-clause-served : goal.returns-clause-served
returns-clause-served g t c = λ known policy base entries first state next seen results runs served.
    let event = owned_event_of c.in-Some.event.now in
    let events = map owned_event_of (take (length c.in-Some-split_first.answers.now) c.in-Some.events.now) in
    let result = result_of c.in-Some-split_first.answer.now in
    let more = map result_of c.in-Some-split_first.answers.now in
    let seen_then = seen ++ event ∷ [] in
    let are : c.args.events.now ≡ c.in-Some.event.now ∷ c.in-Some.events.now = search rules in
    let told : c.args.answers.now ≡ c.in-Some-split_first.answer.now ∷ c.in-Some-split_first.answers.now = search rules in
    let parts = runs_first policy base entries event events result more state next (rw (are, told) at runs) in
    let mid = parts.0 in
    let peers = c.deliver.new.peers in
    let peers_then = c.deliver_all.new.peers in
    let heard = served_more first mid seen_then (g.P.Peers.written peers) (g.P.Peers.takes_all peers) (g.P.Peers.is_closed peers) c.deliver.new.waiting results result
    (c.deliver.ensures.served known policy base entries first state mid seen (λ m. due m results) (λ m. is_shut m results) parts.1 served) in
    rw (are, told)
    (served_joined first next seen events event (g.P.Peers.written peers_then) (g.P.Peers.takes_all peers_then) (g.P.Peers.is_closed peers_then) c.deliver_all.new.waiting results more result
    (c.deliver_all.ensures.served known policy base entries first mid next seen_then (results ++ result ∷ []) parts.2 heard))
