use Rattle.std.proofs.Common.{refl, sym, subst, true, ℕ, List, []}
use Rattle.scim_policy.specs.Rules.{Rule}
use Rattle.scim_shelf.specs.Stores.{Store, IsStore}
use Rattle.scim_token.specs.Tokens.{Knows}
use Rattle.scim_token.specs.declared.token_table.Tokens.{Tokens}
use Rattle.scim_hub.specs.Events.{HubState, Hears}
use Rattle.scim_hub.specs.HubStates.{done}
use Rattle.scim_hub.specs.code.Rounds.{piece_event, ComesTo}
use Rattle.scim_hub.proofs.RoundLemmas.{gathered_none, gathered_more}
use Rattle.scim_hub.proofs.hubs.Hub.take.Goals as goal

pub returns-clause-heard : goal.returns-clause-heard
returns-clause-heard g c entries state knows is honest =
    let hub = c.args.self.now in
    let policy = hub.service.policy in
    let base = hub.service.base in
    let piece = c.args.piece.now in
    let taken = c.take_in-taken in
    let last = c.conclude in
    let keeps = taken.ensures.keeps in
    let honest_then = rw last.ensures.service.service at honest in
    let answered = taken.ensures.answered entries state.store knows is.store honest_then is.is_store in
    let ready = gathered_more [] (record { piece = piece; taken = taken.result }) state.connections hub.connections taken.new.self.connections refl
    (gathered_none state.connections hub.connections is.connections) (taken.ensures.taken state.connections is.connections) in
    let heard = last.ensures.heard entries state [] answered.0 (subst (λ (t : Tokens). Knows entries t) (sym keeps.tokens) knows) honest_then ready
    (subst (λ (p : List Rule). ComesTo p taken.new.self.service.base entries true piece.stamp piece.connection taken.result state.store answered.0) (sym keeps.policy)
    (subst (λ (b : List ℕ). ComesTo policy b entries true piece.stamp piece.connection taken.result state.store answered.0) (sym keeps.base) answered.3)) in
    let next : HubState = record { connections = heard.0; store = answered.0 } in (
      next,
      record {
        store = rw last.ensures.service.service answered.1;
        is_store = rw last.ensures.service.service (rw keeps.base answered.2);
        connections = heard.1.are;
      },
      subst (λ (p : List Rule). Hears p base entries (piece_event piece) state (done last.result.result) next) keeps.policy
          (subst (λ (b : List ℕ). Hears taken.new.self.service.policy b entries (piece_event piece) state (done last.result.result) next) keeps.base heard.2),
    )
