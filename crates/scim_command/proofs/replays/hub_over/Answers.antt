use Rattle.std.proofs.Common.{rules, sym, subst, ℕ, List}
use Rattle.scim_shelf.specs.Stores.{IsStore}
use Rattle.scim_command.proofs.Facts.{is_store}
use Rattle.scim_command.proofs.replays.hub_over.Goals as goal

pub returns-clause-hub : goal.returns-clause-hub
returns-clause-hub c =
    let r = c.args.recording.now in
    let service = c.in_ok-service.ensures.service in
    let store = service.0 in
    let below : IsStore c.in_ok-service.service.base store = subst (λ (b : List ℕ). IsStore b store) (sym c.in_ok-service.ensures.base) (is_store r.base.now r.users.now store service.1) in
    let tokens = c.in_ok-tokens.ensures.tokens in
    record {
      store = store;
      holds = service.1;
      state = c.new-2.ensures.state store service.2 below;
      entries = tokens.0;
      knows = tokens.1;
      has = rw c.new-2.ensures.tokens tokens.2;
      policy = rw (c.new-2.ensures.service, c.in_ok-service.ensures.policy) (search rules);
      base = rw c.new-2.ensures.service c.in_ok-service.ensures.base;
    }
