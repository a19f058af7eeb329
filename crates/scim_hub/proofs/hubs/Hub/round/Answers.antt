use Rattle.std.proofs.Common.{◌≡◌, ◌≤◌, ◌∙◌, ◌-◌, refl, sym, ap, subst, ℕ, List, [], ◌∷◌, ◌++◌, map, take, drop, length, get_or, arith}
use Rattle.std.specs.Prelude.{Result}
use Rattle.std.proofs.lemmas.List.{take-map, take_all, length-drop}
use Rattle.scim_policy.specs.Rules.{Rule}
use Rattle.scim_token.specs.Tokens.{Knows}
use Rattle.scim_token.specs.declared.token_table.Tokens.{Tokens}
use Rattle.scim_hub.specs.declared.events.EventAnswer.{EventAnswer}
use Rattle.scim_hub.specs.declared.hubs.Hub.{Hub}
use Rattle.scim_hub.specs.declared.owned_events.OwnedEvent.{OwnedEvent}
use Rattle.scim_hub.specs.Events.{HubEvent, HubState, Hears, Runs}
use Rattle.scim_hub.specs.HubStates.{IsHubState, owned_event_of, result_of}
use Rattle.scim_hub.specs.code.Rounds.{piece_event}
use Rattle.scim_hub.proofs.RunLemmas.{runs_more}
use Rattle.scim_hub.proofs.hubs.Hub.round.Goals as goal

-- the first event and those behind it
first_of : (events : List OwnedEvent) (first : OwnedEvent) → 1 ≤ length events → first ≡ get_or events 0 first → first ∷ drop 1 events ≡ events
first_of [] first long is = absurd (omega arith)
first_of (event ∷ events) first long is = ap (λ (e : OwnedEvent). e ∷ events) is

with_rest : (events : List OwnedEvent) (first : OwnedEvent) → 1 ≤ length events → first ≡ get_or events 0 first → first ∷ take (length events - 1) (drop 1 events) ≡ events
with_rest events first long is =
    ap (λ (es : List OwnedEvent). first ∷ es) (take_all (length events - 1) (drop 1 events) (omega (arith, length-drop 1 events))) ∙ first_of events first long is

pub returns-in-Some-clause-ran : goal.returns-in-Some-clause-ran
returns-in-Some-clause-ran g c entries state knows is has honest =
    let hub = c.args.self.now in
    let begun = c.begin.new.self in
    let begin = c.in-Some.ensures in
    let events = c.args.events.now in
    let first = c.first-item.result in
    let results = c.together.result.items in
    let is_then : IsHubState g.S.Shelf.stands begun state =
    record { store = begin.kept state.store is.store; is_store = rw begin.other.setting.base is.is_store; connections = rw begin.other.connections is.connections } in
    let ran = c.together.ensures.ran entries state (subst (λ (t : Tokens). Knows entries t) (sym begin.other.setting.tokens) knows) is_then (begin.begun refl state.store is.store has) honest in
    let all = with_rest events first c.in-len1-up.len_at_least c.first-item.is in
    let same : piece_event c.in-Some.piece ∷ map owned_event_of (take (length events - 1) (drop 1 events)) ≡ map owned_event_of events =
    ap (λ (e : HubEvent). e ∷ map owned_event_of (take (length events - 1) (drop 1 events))) begin.first ∙ ap (map owned_event_of) all in
    let runs = subst (λ (es : List HubEvent). Runs begun.service.policy begun.service.base entries state (take (length results) es) (map result_of results) ran.0) same ran.2 in
    let front = subst (λ (es : List HubEvent). Runs begun.service.policy begun.service.base entries state es (map result_of results) ran.0) (take-map owned_event_of (length results) events) runs in (
      ran.0,
      ran.1,
      subst (λ (p : List Rule). Runs p hub.service.base entries state (map owned_event_of (take (length results) events)) (map result_of results) ran.0) begin.other.setting.policy
          (subst (λ (b : List ℕ). Runs begun.service.policy b entries state (map owned_event_of (take (length results) events)) (map result_of results) ran.0) begin.other.setting.base front),
    )

pub returns-in-None-clause-ran : goal.returns-in-None-clause-ran
returns-in-None-clause-ran g c entries state knows is has honest =
    let hub = c.args.self.now in
    let policy = hub.service.policy in
    let base = hub.service.base in
    let events = c.args.events.now in
    let first = c.first-item.result in
    let answer = c.alone.result in
    let same = c.in-None.ensures.nothing refl in
    let is_then : IsHubState g.S.Shelf.stands c.begin.new.self state = rw same is in
    let knows_then : Knows entries c.begin.new.self.tokens = rw same knows in
    let heard = c.alone.ensures.heard entries state knows_then is_then honest in
    let step : Hears policy base entries (owned_event_of first) state (result_of answer) heard.0 = rw same at heard.2 in
    let pushed = (rw c.unwrap.ensures at c.push.ensures.items) ∙ ap (λ (made : List EventAnswer). made ++ answer ∷ []) c.in_ok-answers.ensures.items in
    let runs = runs_more policy base entries (owned_event_of first) (result_of answer) heard.0 state state [] [] (refl, refl) step in
    let one = subst (λ (es : List OwnedEvent). Runs policy base entries state (map owned_event_of (take 1 es)) (result_of answer ∷ []) heard.0)
    (first_of events first c.in-len1-up.len_at_least c.first-item.is) runs in
    (heard.0, heard.1, subst (λ (made : List EventAnswer). Runs policy base entries state (map owned_event_of (take (length made) events)) (map result_of made) heard.0) (sym pushed) one)
