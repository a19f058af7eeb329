use Rattle.std.proofs.Common.{◌≡◌, ◌∙◌, sym, ap, subst, ℕ, ◌+◌, List, [], ◌∷◌, ◌++◌, map, take, arith}
use Rattle.std.specs.Prelude.{Result}
use Rattle.std.proofs.lemmas.List.{take_more, map-append}
use Rattle.scim_policy.specs.Rules.{Rule}
use Rattle.scim_token.specs.Tokens.{Knows}
use Rattle.scim_token.specs.declared.token_table.Tokens.{Tokens}
use Rattle.scim_hub.specs.declared.events.Event.{Event}
use Rattle.scim_hub.specs.declared.events.HubFault.{HubFault}
use Rattle.scim_hub.specs.Events.{HubEvent, HubOutput, Hears, Runs}
use Rattle.scim_hub.specs.HubStates.{event_of, done}
use Rattle.scim_hub.proofs.RunLemmas.{runs_more}
use Rattle.scim_hub.proofs.hubs.Hub.run.Goals as goal

pub loop-event-preserved : goal.loop-event-preserved
loop-event-preserved g c =
    let inv = c.loop-event.invariant in
    let i = c.loop-event.event-index in
    let events = c.args.events.now in
    let event = c.event-item.result in
    let results = c.loop-event.results.items in
    let result = c.event-result.result in
    let policy = c.args.self.now.service.policy in
    let base = c.args.self.now.service.base in
    let more = take_more events i event c.loop-event-test.true ∙ ap (λ (x : Event). take i events ++ x ∷ []) (sym c.event-item.is) in
    let seen : map event_of (take (i + 1) events) ≡ map event_of (take i events) ++ event_of event ∷ [] = ap (map event_of) more ∙ map-append event_of (take i events) (event ∷ []) in
    let items = rw c.unwrap.ensures at c.push.ensures.items in
    let told : map done c.push.new.self.items ≡ map done results ++ done result ∷ [] = ap (map done) items ∙ map-append done results (result ∷ []) in
    let longer = rw c.unwrap.ensures at c.push.ensures.len in
    record {
      size = longer ∙ ap (λ (m : ℕ). m + 1) inv.size;
      room = omega (arith, inv.room, c.push.ensures.capacity);
      policy = c.event-result.ensures.keeps.policy ∙ inv.policy;
      base = c.event-result.ensures.keeps.base ∙ inv.base;
      tokens = c.event-result.ensures.keeps.tokens ∙ inv.tokens;
      ran = λ entries state knows is honest.
          let before = inv.ran entries state knows is (c.event-result.ensures.honest honest) in
          let step = c.event-result.ensures.heard entries before.0 (subst (λ (t : Tokens). Knows entries t) (sym inv.tokens) knows) before.1 honest in
          let heard = subst (λ (p : List Rule). Hears p base entries (event_of event) before.0 (done result) step.0) inv.policy
          (subst (λ (b : List ℕ). Hears c.loop-event.self.service.policy b entries (event_of event) before.0 (done result) step.0) inv.base step.2) in
          let runs = runs_more policy base entries (event_of event) (done result) step.0 state before.0 (map event_of (take i events)) (map done results) before.2 heard in (
            step.0,
            step.1,
            subst (λ (xs : List HubEvent). Runs policy base entries state xs (map done c.push.new.self.items) step.0) (sym seen)
                (subst (λ (ys : List (Result (List HubOutput) HubFault)). Runs policy base entries state (map event_of (take i events) ++ event_of event ∷ []) ys step.0) (sym told) runs),
          );
      round = λ round has. c.event-result.ensures.round round (inv.round round has);
      honest = λ h. inv.honest (c.event-result.ensures.honest h);
    }
