-- The faults of the functions of `replay`, and the hub that it makes.
use Rattle.std.specs.Prelude.{◌≡◌, List, Ok}
use Rattle.scim_policy_file.specs.File.{policy_of}
use Rattle.scim_shelf.specs.Stores.{Store}
use Rattle.scim_token.specs.TokenFile.{Entry, entries_in}
use Rattle.scim_token.specs.Tokens.{Knows}
use Rattle.scim_hub.specs.declared.hubs.Hub.{Hub}
use Rattle.scim_hub.specs.Events.{none_joined}
use Rattle.scim_hub.specs.HubStates.{IsHubState}
use Rattle.scim_command.specs.Once.{IsStoreOf}
use Rattle.scim_command.specs.declared.faults.RunFault.{RunFault}
use Rattle.scim_command.specs.declared.faults.RunFault.TheVariants.{Policy, Users, Tokens, AdminTokens, SharedToken, Events, NoMemory}
use Rattle.scim_command.specs.declared.replays.Recording.{Recording}

-- the fault is `Tokens` or `NoMemory`
abbrev pub IsOfTokens : RunFault → Type 0
IsOfTokens (Tokens n) = Unit {0}
IsOfTokens NoMemory = Unit {0}
IsOfTokens _ = ⊥

-- the fault is `AdminTokens`, `SharedToken` or `NoMemory`
abbrev pub IsOfAdminTokens : RunFault → Type 0
IsOfAdminTokens (AdminTokens n) = Unit {0}
IsOfAdminTokens (SharedToken n) = Unit {0}
IsOfAdminTokens NoMemory = Unit {0}
IsOfAdminTokens _ = ⊥

-- the fault is `Policy`, `Tokens`, `Users` or `NoMemory`
abbrev pub IsOfFiles : RunFault → Type 0
IsOfFiles (Policy rule cause) = Unit {0}
IsOfFiles (Users n) = Unit {0}
IsOfFiles (Tokens n) = Unit {0}
IsOfFiles NoMemory = Unit {0}
IsOfFiles _ = ⊥

-- the fault is `Events` or `NoMemory`
abbrev pub IsOfEvents : RunFault → Type 0
IsOfEvents (Events n) = Unit {0}
IsOfEvents NoMemory = Unit {0}
IsOfEvents _ = ⊥

-- the fault is `Policy`, `Tokens`, `Users`, `Events` or `NoMemory`
abbrev pub IsOfRecording : RunFault → Type 0
IsOfRecording (Events n) = Unit {0}
IsOfRecording fault = IsOfFiles fault

-- the hub has no connections, and the policy, the resources and the tokens of the recording's files
pub record IsHubOver {H : Type 0} (Stands : H → Store → Type 0) (r : Recording) (hub : Hub H) : Type 0 where
  pub store : Store
  pub holds : IsStoreOf r.base.now r.users.now store
  pub state : IsHubState Stands hub (none_joined store)
  pub entries : List Entry
  pub knows : entries_in r.tokens.now ≡ Ok entries
  pub has : Knows entries hub.tokens
  pub policy : policy_of r.policy.now ≡ Ok hub.service.policy
  pub base : hub.service.base ≡ r.base.now
