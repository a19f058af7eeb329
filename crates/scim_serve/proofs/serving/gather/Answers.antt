use Rattle.std.proofs.Common.{rules, arith, ◌∙◌, sym, ap, ℕ, ◌+◌, List, [], ◌∷◌, ◌++◌, append_assoc, map}
use Rattle.std.specs.Prelude.{Option}
use Rattle.std.proofs.lemmas.List.{append-nil, map-append}
use Rattle.scim_hub.specs.Events.{HubEvent}
use Rattle.scim_hub.specs.HubStates.{owned_event_of}
use Rattle.scim_hub.specs.declared.owned_events.OwnedEvent.{OwnedEvent}
use Rattle.scim_serve.specs.Peers.{told_ready}
use Rattle.scim_serve.proofs.serving.gather.Goals as goal

pub loop-init : goal.loop-init
loop-init g c = record {
  size = sym c.len-counter.ensures;
  room = omega arith;
  gathered = λ known. ([], sym (append-nil c.args.events.now.items), sym (append-nil (g.P.Peers.seen c.args.peers.now)));
  written = λ known m. search rules;
  takes = λ known m all. all;
  closed = λ known m. search rules;
}

pub loop-preserved : goal.loop-preserved
loop-preserved g c =
    let inv = c.loop.invariant in
    let event = c.in-Some.event in
    let next = c.next_ready.ensures in
    let longer = rw c.unwrap.ensures at c.push.ensures.len in
    let items = rw c.unwrap.ensures at c.push.ensures.items in
    record {
      size = longer ∙ ap (λ (n : ℕ). n + 1) inv.size;
      room = omega (arith, inv.room, c.push.ensures.capacity);
      gathered = λ known.
          let before = inv.gathered known in
          let first = g.P.Peers.seen c.args.peers.now in (
            before.0 ++ event ∷ [],
            items ∙ ap (λ (xs : List OwnedEvent). xs ++ event ∷ []) before.1 ∙ append_assoc c.args.events.now.items before.0 (event ∷ []),
            next.seen known ∙ ap (λ (o : Option OwnedEvent). g.P.Peers.seen c.loop.peers ++ told_ready o) c.in-Some.is
                ∙ ap (λ (xs : List HubEvent). xs ++ owned_event_of event ∷ []) before.2
                ∙ append_assoc first (map owned_event_of before.0) (owned_event_of event ∷ [])
                ∙ ap (λ (xs : List HubEvent). first ++ xs) (sym (map-append owned_event_of before.0 (event ∷ []))),
          );
      written = λ known m. next.written known m ∙ inv.written known m;
      takes = λ known m all. inv.takes known m (next.takes known m all);
      closed = λ known m. next.closed known m ∙ inv.closed known m;
    }
