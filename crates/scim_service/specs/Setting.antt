-- The policy, the base URI and the shelf of a service.
use Rattle.std.specs.Prelude.{◌≡◌, ℕ, List}
use Rattle.scim_policy.specs.Rules.{Rule}
use Rattle.scim_service.specs.declared.answering_turns.Service.{Service}

-- The rules of a service's policy.
abbrev pub service_policy : {S : Type 0} → Service S → List Rule
service_policy service = service.policy

-- The base URI of a service; the location of each resource begins with it.
abbrev pub service_base : {S : Type 0} → Service S → List ℕ
service_base service = service.base

-- The shelf of a service.
abbrev pub service_shelf : {S : Type 0} → Service S → S
service_shelf service = service.shelf

-- The service with the policy replaced by one of these rules.
abbrev pub with_policy : {S : Type 0} → Service S → List Rule → Service S
with_policy service policy = record service { policy = policy }

-- The service with the shelf replaced by `shelf`.
abbrev pub with_shelf : {S : Type 0} → Service S → S → Service S
with_shelf service shelf = record service { shelf = shelf }

-- The service's policy and base URI are unchanged.
pub record KeepsSetting {S : Type 0} (old new : Service S) : Type 0 where
  pub policy : service_policy new ≡ service_policy old
  pub base : service_base new ≡ service_base old
