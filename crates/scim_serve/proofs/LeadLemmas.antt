-- What several events lead to, one after another.
use Rattle.std.proofs.Common.{◌≡◌, ◌∙◌, sym, subst, ℕ, Bool, List, [], ◌++◌, append_assoc}
use Rattle.std.proofs.lemmas.List.{append-nil}
use Rattle.scim_shelf.specs.Shelves.{Round}
use Rattle.scim_shelf.specs.Stores.{Store}
use Rattle.scim_hub.specs.Events.{HubEvent}
use Rattle.scim_hub.specs.HubSetting.{hub_base, hub_policy, hub_tokens}
use Rattle.scim_hub.specs.declared.hubs.Hub.{Hub}
use Rattle.scim_serve.specs.declared.pending_bytes.Waiting.{Waiting}
use Rattle.scim_serve.specs.SettledStates.{IsSettledIn}
use Rattle.scim_serve.specs.code.Leads.{Leads}
use Rattle.scim_serve.specs.code.Served.{IsReached}

module _ {P S : Type 0} (written : P → ℕ → List ℕ) (takes closed : P → ℕ → Bool) (Stands : S → Store → Type 0) (HasRound : S → Round → Type 0) where
  -- no event leads to what was reached
  pub leads_none : (peers : P) (waiting : Waiting) (hub : Hub S) → Leads written takes closed Stands HasRound [] peers peers waiting waiting hub hub
  leads_none peers waiting hub = record {
    reached = λ start may seen based reached.
        subst (λ (events : List HubEvent). IsReached start may events (written peers) (takes peers) (closed peers) waiting (hub_policy hub) (hub_tokens hub) (IsSettledIn Stands HasRound hub))
        (sym (append-nil seen)) reached;
  }

  -- some events, and then more
  pub leads_both : (events more : List HubEvent) (peers peers_mid peers_then : P) (waiting waiting_mid waiting_then : Waiting) (hub hub_mid hub_then : Hub S)
      → hub_base hub_mid ≡ hub_base hub
      → Leads written takes closed Stands HasRound events peers peers_mid waiting waiting_mid hub hub_mid
      → Leads written takes closed Stands HasRound more peers_mid peers_then waiting_mid waiting_then hub_mid hub_then
      → Leads written takes closed Stands HasRound (events ++ more) peers peers_then waiting waiting_then hub hub_then
  leads_both events more peers peers_mid peers_then waiting waiting_mid waiting_then hub hub_mid hub_then same first later = record {
    reached = λ start may seen based reached.
        subst (λ (all : List HubEvent). IsReached start may all (written peers_then) (takes peers_then) (closed peers_then) waiting_then (hub_policy hub_then) (hub_tokens hub_then)
        (IsSettledIn Stands HasRound hub_then))
        (append_assoc seen events more)
        (later.reached start may (seen ++ events) (based ∙ sym same) (first.reached start may seen based reached));
  }
