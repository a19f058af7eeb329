-- The settings of a hub: the policy, the base URI and the shelf of its service, and the clients' tokens.
use Rattle.std.specs.Prelude.{◌≡◌, ℕ, List}
use Rattle.scim_policy.specs.Rules.{Rule}
use Rattle.scim_service.specs.Setting.{service_policy, service_base, service_shelf, with_policy, with_shelf}
use Rattle.scim_token.specs.declared.token_table.Tokens.{Tokens}
use Rattle.scim_hub.specs.declared.hubs.Hub.{Hub}

-- The rules of the policy by which a hub answers.
abbrev pub hub_policy : {S : Type 0} → Hub S → List Rule
hub_policy hub = service_policy hub.service

-- The base URI of the locations in a hub's replies.
abbrev pub hub_base : {S : Type 0} → Hub S → List ℕ
hub_base hub = service_base hub.service

-- The tokens of a hub's clients.
abbrev pub hub_tokens : {S : Type 0} → Hub S → Tokens
hub_tokens hub = hub.tokens

-- The shelf of a hub's service.
abbrev pub hub_shelf : {S : Type 0} → Hub S → S
hub_shelf hub = service_shelf hub.service

-- The number of messages that a hub refused because no client has their token, 2^64 - 1 at most.
abbrev pub refused_tokens_of : {S : Type 0} → Hub S → ℕ
refused_tokens_of hub = hub.refused

-- The hub with the shelf of its service replaced by `shelf`.
abbrev pub with_hub_shelf : {S : Type 0} → Hub S → S → Hub S
with_hub_shelf hub shelf = record hub { service = with_shelf hub.service shelf }

-- The hub with its policy replaced by one of these rules, and its tokens by `tokens`.
abbrev pub with_hub_setting : {S : Type 0} → Hub S → List Rule → Tokens → Hub S
with_hub_setting hub policy tokens = record hub { service = with_policy hub.service policy; tokens = tokens }

-- A hub keeps its policy, its base URI and its tokens.
pub record KeepsHubSetting {S : Type 0} (old new : Hub S) : Type 0 where
  pub policy : hub_policy new ≡ hub_policy old
  pub base : hub_base new ≡ hub_base old
  pub tokens : hub_tokens new ≡ hub_tokens old
