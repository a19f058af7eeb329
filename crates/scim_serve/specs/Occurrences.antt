-- What occurs while a server runs: the events of its hub, and reloads of the hub's policy and tokens between
-- them.
use Rattle.std.specs.Prelude.{◌≡◌, ℕ, List, [], ◌∷◌, ◌++◌, Result}
use Rattle.scim_policy.specs.Rules.{Rule}
use Rattle.scim_token.specs.TokenFile.{Entry}
use Rattle.scim_hub.specs.declared.events.HubFault.{HubFault}
use Rattle.scim_hub.specs.Events.{HubEvent, HubOutput, HubState, Hears, Runs}

-- what occurs: the hub hears an event, or its policy and its tokens are replaced
pub data Occurrence : Type 0 where
  hears : HubEvent → Occurrence
  reloads : List Rule → List Entry → Occurrence

-- the events that the hub hears, in order
abbrev pub heard : List Occurrence → List HubEvent
heard [] = []
heard (hears event ∷ more) = event ∷ heard more
heard (reloads policy entries ∷ more) = heard more

-- the policies that are put in place, in order
abbrev pub reloaded : List Occurrence → List (List Rule)
reloaded [] = []
reloaded (hears event ∷ more) = reloaded more
reloaded (reloads policy entries ∷ more) = policy ∷ reloaded more

-- the results of what occurs, one for each event of the hub: an event is heard under the policy and the
-- tokens in place; after all of it, `policy_last` and `entries_last` are in place
abbrev pub RunsThrough : List ℕ → List Rule → List Entry → HubState → List Occurrence → List (Result (List HubOutput) HubFault) → List Rule → List Entry → HubState → Type 0
RunsThrough base policy entries state [] results policy_last entries_last next =
    (results ≡ []) × (policy_last ≡ policy) × (entries_last ≡ entries) × (next ≡ state)
RunsThrough base policy entries state (hears event ∷ more) results policy_last entries_last next =
    (result : Result (List HubOutput) HubFault) × (mid : HubState) × (rest : List (Result (List HubOutput) HubFault))
    × (results ≡ result ∷ rest)
    × Hears policy base entries event state result mid
    × RunsThrough base policy entries mid more rest policy_last entries_last next
RunsThrough base policy entries state (reloads policy_then entries_then ∷ more) results policy_last entries_last next =
    RunsThrough base policy_then entries_then state more results policy_last entries_last next

-- what occurs without a reload is one run of the events, under the policy and the tokens at first
abbrev pub RunsWithoutReload : Type 0
RunsWithoutReload =
    (base : List ℕ) (policy policy_last : List Rule) (entries entries_last : List Entry) (state next : HubState) (occurrences : List Occurrence)
    (results : List (Result (List HubOutput) HubFault))
    → RunsThrough base policy entries state occurrences results policy_last entries_last next → reloaded occurrences ≡ []
    → Runs policy base entries state (heard occurrences) results next × (policy_last ≡ policy) × (entries_last ≡ entries)

-- what occurs before the first reload is one run of its events, under the policy and the tokens at first; what
-- occurs after the reload begins with the state after this run, under the new policy and the new tokens
abbrev pub RunsInParts : Type 0
RunsInParts =
    (base : List ℕ) (policy policy_then policy_last : List Rule) (entries entries_then entries_last : List Entry) (state next : HubState)
    (before after : List Occurrence) (results : List (Result (List HubOutput) HubFault))
    → RunsThrough base policy entries state (before ++ reloads policy_then entries_then ∷ after) results policy_last entries_last next → reloaded before ≡ []
    → (results_before : List (Result (List HubOutput) HubFault)) × (results_after : List (Result (List HubOutput) HubFault)) × (mid : HubState)
    × (results ≡ results_before ++ results_after)
    × Runs policy base entries state (heard before) results_before mid
    × RunsThrough base policy_then entries_then mid after results_after policy_last entries_last next
