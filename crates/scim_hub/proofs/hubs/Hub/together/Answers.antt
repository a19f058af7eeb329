use Rattle.std.proofs.Common.{◌≡◌, ◌∙◌, refl, sym, ap, subst, ℕ, ◌+◌, ◌<◌, List, ◌∷◌, map, take, length, arith, add-one}
use Rattle.std.specs.Prelude.{Result}
use Rattle.std.proofs.lemmas.List.{take-map}
use Rattle.scim_policy.specs.Rules.{Rule}
use Rattle.scim_shelf.specs.Stores.{Store, IsStore}
use Rattle.scim_token.specs.Tokens.{Knows}
use Rattle.scim_token.specs.declared.token_table.Tokens.{Tokens}
use Rattle.scim_hub.specs.declared.connections.Connections.{Connections}
use Rattle.scim_hub.specs.declared.owned_events.OwnedEvent.{OwnedEvent}
use Rattle.scim_hub.specs.Events.{HubEvent, HubState, Runs}
use Rattle.scim_hub.specs.HubStates.{owned_event_of, result_of}
use Rattle.scim_hub.specs.code.Rounds.{piece_event, member_event, AreGathered, AllComeTo}
use Rattle.scim_hub.proofs.RoundLemmas.{after_round}
use Rattle.scim_hub.proofs.hubs.Hub.together.Goals as goal

-- the events of a round are a front of those that were given
front_of : (first : HubEvent) (rest : List OwnedEvent) (count size : ℕ) → size ≡ count + 1
    → first ∷ map owned_event_of (take count rest) ≡ take size (first ∷ map owned_event_of rest)
front_of first rest count size is =
    sym (ap (λ (k : ℕ). take k (first ∷ map owned_event_of rest)) (is ∙ add-one count) ∙ ap (λ (es : List HubEvent). first ∷ es) (take-map owned_event_of count rest))

pub returns-clause-some : goal.returns-clause-some
returns-clause-some g c = omega (arith, c.conclude_all.ensures.len, c.gather-members.ensures.events.1)

pub returns-clause-settled : goal.returns-clause-settled
returns-clause-settled g c round has =
    rw c.conclude_all.ensures.service.service (c.settle-made.ensures.settles round (c.gather-members.ensures.round round has))

pub returns-clause-honest : goal.returns-clause-honest
returns-clause-honest g c honest =
    c.gather-members.ensures.honest (c.settle-made.ensures.honest (rw c.conclude_all.ensures.service.service at honest))

pub returns-clause-ran : goal.returns-clause-ran
returns-clause-ran g c entries state knows is has honest =
    let hub = c.args.self.now in
    let policy = hub.service.policy in
    let base = hub.service.base in
    let gathered = c.gather-members in
    let settled = c.settle-made in
    let last = c.conclude_all in
    let members = gathered.result.items in
    let same_policy = settled.ensures.other.setting.policy ∙ gathered.ensures.keeps.policy in
    let same_base = settled.ensures.other.setting.base ∙ gathered.ensures.keeps.base in
    let same_tokens = settled.ensures.other.setting.tokens ∙ gathered.ensures.keeps.tokens in
    let honest_then = rw last.ensures.service.service at honest in
    let answered = gathered.ensures.answered entries state.store knows is.store (settled.ensures.honest honest_then) is.is_store in
    let end = after_round policy base entries g.S.Shelf.stands settled.result members gathered.new.self.service.shelf settled.new.self.service.shelf state.store answered.0
    (λ made. settled.ensures.made made answered.0) (λ lost. settled.ensures.back lost state.store (gathered.ensures.round _ has))
    answered.1 is.is_store answered.2 answered.3 in
    let ready = subst (λ (k : Connections). AreGathered members state.connections k) (sym settled.ensures.other.connections) (gathered.ensures.gathered state.connections is.connections) in
    let ran = last.ensures.ran entries state end.0 (subst (λ (t : Tokens). Knows entries t) (sym same_tokens) knows) honest_then ready
    (subst (λ (p : List Rule). AllComeTo p settled.new.self.service.base entries settled.result members state.store end.0) (sym same_policy)
    (subst (λ (b : List ℕ). AllComeTo policy b entries settled.result members state.store end.0) (sym same_base) end.3)) in
    let next : HubState = record { connections = ran.0; store = end.0 } in
    let runs = subst (λ (p : List Rule). Runs p base entries state (map member_event members) (map result_of last.result.items) next) same_policy
    (subst (λ (b : List ℕ). Runs settled.new.self.service.policy b entries state (map member_event members) (map result_of last.result.items) next) same_base ran.2) in
    let size = last.ensures.len ∙ gathered.ensures.events.1 in (
      next,
      record {
        store = rw last.ensures.service.service end.1;
        is_store = rw last.ensures.service.service (rw same_base end.2);
        connections = ran.1;
      },
      subst (λ (es : List HubEvent). Runs policy base entries state es (map result_of last.result.items) next)
          (gathered.ensures.events.2 ∙ front_of (piece_event c.args.first.now) c.args.rest.now gathered.ensures.events.0 (length last.result.items) size) runs,
    )
