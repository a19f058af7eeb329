-- How the events that a hub hears lead from what was reached to what is reached after them.
use Rattle.std.specs.Prelude.{◌≡◌, ℕ, Bool, List, ◌++◌}
use Rattle.scim_shelf.specs.Shelves.{Round}
use Rattle.scim_shelf.specs.Stores.{Store}
use Rattle.scim_hub.specs.Events.{HubEvent}
use Rattle.scim_hub.specs.HubSetting.{hub_base, hub_policy, hub_tokens}
use Rattle.scim_hub.specs.declared.hubs.Hub.{Hub}
use Rattle.scim_serve.specs.declared.pending_bytes.Waiting.{Waiting}
use Rattle.scim_serve.specs.SettledStates.{IsSettledIn}
use Rattle.scim_serve.specs.code.Served.{IsReached, Start}

-- what was reached before the events is reached after them, with the events heard
pub record Leads {P S : Type 0} (written : P → ℕ → List ℕ) (takes_all is_closed : P → ℕ → Bool) (Stands : S → Store → Type 0) (HasRound : S → Round → Type 0) (events : List HubEvent)
    (peers peers_then : P) (waiting waiting_then : Waiting) (hub hub_then : Hub S) : Type 0 where
  pub reached : (start : Start) (may_reload : Bool) (seen : List HubEvent) → start.base ≡ hub_base hub
      → IsReached start may_reload seen (written peers) (takes_all peers) (is_closed peers) waiting (hub_policy hub) (hub_tokens hub) (IsSettledIn Stands HasRound hub)
      → IsReached start may_reload (seen ++ events) (written peers_then) (takes_all peers_then) (is_closed peers_then) waiting_then (hub_policy hub_then) (hub_tokens hub_then)
      (IsSettledIn Stands HasRound hub_then)
