-- The state of a hub between two rounds.
use Rattle.scim_shelf.specs.Shelves.{Round, settled}
use Rattle.scim_shelf.specs.Stores.{Store}
use Rattle.scim_hub.specs.declared.hubs.Hub.{Hub}
use Rattle.scim_hub.specs.Events.{HubState}
use Rattle.scim_hub.specs.HubSetting.{hub_shelf}
use Rattle.scim_hub.specs.HubStates.{IsHubState}

-- the hub is in this state, and no round of its shelf is under way
abbrev pub IsSettledIn : {S : Type 0} → (S → Store → Type 0) → (S → Round → Type 0) → Hub S → HubState → Type 0
IsSettledIn Stands HasRound hub state = IsHubState Stands hub state × HasRound (hub_shelf hub) settled
