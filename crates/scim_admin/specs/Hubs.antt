-- What the administrator's port leaves of a hub.
use Rattle.std.specs.Prelude.{◌≡◌, List}
use Rattle.scim_shelf.specs.Shelves.{KeepsRound, Round}
use Rattle.scim_shelf.specs.Stores.{Store}
use Rattle.scim_token.specs.TokenFile.{Entry}
use Rattle.scim_token.specs.Tokens.{Knows}
use Rattle.scim_hub.specs.declared.hubs.Hub.{Hub}
use Rattle.scim_hub.specs.Events.{HubState}
use Rattle.scim_hub.specs.HubSetting.{hub_base, hub_policy, hub_shelf, hub_tokens, KeepsHubSetting}
use Rattle.scim_hub.specs.HubStates.{IsHubState}
use Rattle.scim_admin.specs.declared.hosts.Setting.{Setting}
use Rattle.scim_admin.specs.Reloads.{ChangesByReload}

-- The hub is in each state in which it was, and its shelf has the round that it had and is honest only if it was.
pub record KeepsState {S : Type 0} (Stands : S → Store → Type 0) (IsHonest : S → Type 0) (HasRound : S → Round → Type 0) (old new : Hub S) : Type 0 where
  pub state : (state : HubState) → IsHubState Stands old state → IsHubState Stands new state
  pub round : KeepsRound HasRound (hub_shelf old) (hub_shelf new)
  pub honest : IsHonest (hub_shelf new) → IsHonest (hub_shelf old)

-- The hub keeps its state, its policy, its base URI and its tokens.
pub record KeepsHub {S : Type 0} (Stands : S → Store → Type 0) (IsHonest : S → Type 0) (HasRound : S → Round → Type 0) (old new : Hub S) : Type 0 where
  pub state : KeepsState Stands IsHonest HasRound old new
  pub setting : KeepsHubSetting old new

-- The hub keeps its state and its base URI. Its policy and its tokens are unchanged, or they are those of a
-- setting that the host gave.
pub record Reloads {S H : Type 0} (Stands : S → Store → Type 0) (IsHonest : S → Type 0) (HasRound : S → Round → Type 0) (Gives : H → Setting → Type 0) (old new : Hub S) : Type 0 where
  pub state : KeepsState Stands IsHonest HasRound old new
  pub base : hub_base new ≡ hub_base old
  pub known : (entries : List Entry) → Knows entries (hub_tokens old) → (next : List Entry) × Knows next (hub_tokens new)
  pub setting : ChangesByReload Gives old new
