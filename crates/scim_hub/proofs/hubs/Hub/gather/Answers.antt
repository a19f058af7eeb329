use Rattle.std.proofs.Common.{◌≡◌, ◌∙◌, refl, sym, ap, subst, ℕ, ◌+◌, List, [], ◌∷◌, ◌++◌, map, take, length, arith, true, false}
use Rattle.std.proofs.lemmas.List.{take_more, map-append}
use Rattle.scim_policy.specs.Rules.{Rule}
use Rattle.scim_shelf.specs.Stores.{Store, IsStore}
use Rattle.scim_token.specs.Tokens.{Knows}
use Rattle.scim_token.specs.declared.token_table.Tokens.{Tokens}
use Rattle.scim_hub.specs.declared.owned_events.OwnedEvent.{OwnedEvent}
use Rattle.scim_hub.specs.declared.rounds.Member.{Member}
use Rattle.scim_hub.specs.Events.{HubEvent}
use Rattle.scim_hub.specs.HubStates.{owned_event_of}
use Rattle.scim_hub.specs.code.Rounds.{has_member, piece_event, member_event, AreGathered, ComesTo, AllComeTo}
use Rattle.scim_hub.proofs.RoundLemmas.{gathered_none, gathered_more, come_more}
use Rattle.scim_hub.proofs.hubs.Hub.gather.Goals as goal

pub loop-event-init : goal.loop-event-init
loop-event-init g c =
    let hub = c.args.self.now in
    let taken = c.take_in-taken in
    let member : Member = record { piece = record { connection = c.args.first.now.connection; stamp = c.args.first.now.stamp; bytes = c.args.first.now.bytes }; taken = taken.result } in
    let pushed = (rw c.unwrap.ensures at c.push.ensures.items) ∙ ap (λ (ms : List Member). ms ++ member ∷ []) c.requires.empty in
    let longer = rw c.unwrap.ensures at c.push.ensures.len in
    record {
      size = longer ∙ ap (λ (m : ℕ). m + 1) c.requires.len;
      room = omega (arith, c.requires.room, c.push.ensures.capacity);
      events = ap (map member_event) pushed;
      gathered = λ connections are.
          subst (λ (ms : List Member). AreGathered ms connections taken.new.self.connections) (sym pushed)
          (gathered_more [] member connections hub.connections taken.new.self.connections refl (gathered_none connections hub.connections are) (taken.ensures.taken connections are));
      policy = taken.ensures.keeps.policy;
      base = taken.ensures.keeps.base;
      tokens = taken.ensures.keeps.tokens;
      answered = λ entries store knows stands honest is.
          let done = taken.ensures.answered entries store knows stands honest is in (
            done.0,
            done.1,
            done.2,
            subst (λ (ms : List Member). AllComeTo hub.service.policy hub.service.base entries true ms store done.0) (sym pushed)
                (come_more hub.service.policy hub.service.base entries true [] member store store done.0 refl done.3),
          );
      round = taken.ensures.round;
      honest = taken.ensures.honest;
      refused = taken.ensures.refused;
    }

pub loop-event-preserved : goal.loop-event-preserved
loop-event-preserved g c =
    let inv = c.loop-event.invariant in
    let i = c.loop-event.event-index in
    let rest = c.args.rest.now in
    let event = c.event-item.result in
    let hub = c.args.self.now in
    let policy = hub.service.policy in
    let base = hub.service.base in
    let members = c.loop-event.members.items in
    let piece = c.in-Some.piece in
    let taken = c.take_in-taken-in-loop-event in
    let member : Member = record { piece = piece; taken = taken.result } in
    let pushed = rw c.unwrap-in-loop-event.ensures at c.push-in-loop-event.ensures.items in
    let longer = rw c.unwrap-in-loop-event.ensures at c.push-in-loop-event.ensures.len in
    let more = take_more rest i event c.loop-event-test.true ∙ ap (λ (x : OwnedEvent). take i rest ++ x ∷ []) (sym c.event-item.is) in
    let seen : map owned_event_of (take (i + 1) rest) ≡ map owned_event_of (take i rest) ++ owned_event_of event ∷ [] =
    ap (map owned_event_of) more ∙ map-append owned_event_of (take i rest) (event ∷ []) in
    let other = subst (λ (ms : List Member). has_member piece.connection ms ≡ false) c.as_slice.ensures.value c.in-Some.ensures.apart in
    record {
      size = longer ∙ ap (λ (m : ℕ). m + 1) inv.size;
      room = omega (arith, inv.room, c.push-in-loop-event.ensures.capacity);
      events = ap (map member_event) pushed ∙ map-append member_event members (member ∷ [])
          ∙ ap (λ (es : List HubEvent). es ++ piece_event piece ∷ []) inv.events
          ∙ ap (λ (e : HubEvent). piece_event c.args.first.now ∷ (map owned_event_of (take i rest) ++ e ∷ [])) c.in-Some.ensures.event
          ∙ ap (λ (es : List HubEvent). piece_event c.args.first.now ∷ es) (sym seen);
      gathered = λ connections are.
          subst (λ (ms : List Member). AreGathered ms connections taken.new.self.connections) (sym pushed)
          (let before = inv.gathered connections are in gathered_more members member connections c.loop-event.self.connections taken.new.self.connections other before (taken.ensures.taken _ before.are));
      policy = taken.ensures.keeps.policy ∙ inv.policy;
      base = taken.ensures.keeps.base ∙ inv.base;
      tokens = taken.ensures.keeps.tokens ∙ inv.tokens;
      answered = λ entries store knows stands honest is.
          let before = inv.answered entries store knows stands (taken.ensures.honest honest) is in
          let step = taken.ensures.answered entries before.0 (subst (λ (t : Tokens). Knows entries t) (sym inv.tokens) knows) before.1 honest
          (subst (λ (b : List ℕ). IsStore b before.0) (sym inv.base) before.2) in
          let come = subst (λ (p : List Rule). ComesTo p base entries true piece.stamp piece.connection taken.result before.0 step.0) inv.policy
          (subst (λ (b : List ℕ). ComesTo c.loop-event.self.service.policy b entries true piece.stamp piece.connection taken.result before.0 step.0) inv.base step.3) in (
            step.0,
            step.1,
            subst (λ (b : List ℕ). IsStore b step.0) inv.base step.2,
            subst (λ (ms : List Member). AllComeTo policy base entries true ms store step.0) (sym pushed)
                (come_more policy base entries true members member store before.0 step.0 before.3 come),
          );
      round = λ round has. taken.ensures.round round (inv.round round has);
      honest = λ h. inv.honest (taken.ensures.honest h);
      refused = taken.ensures.refused ∙ inv.refused;
    }
