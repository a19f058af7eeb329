-- The text that `replay` writes for its files, and its faults.
use Rattle.std.specs.Prelude.{◌≡◌, ℕ, List, Result, Ok, IsOk}
use Rattle.scim_cell.specs.Content.{Content}
use Rattle.scim_json.specs.Documents.{IsDocumentsText}
use Rattle.scim_policy.specs.Rules.{Rule}
use Rattle.scim_policy_file.specs.File.{policy_of}
use Rattle.scim_shelf.specs.Stores.{Store}
use Rattle.scim_token.specs.TokenFile.{Entry, entries_in}
use Rattle.scim_hub.specs.declared.events.HubFault.{HubFault}
use Rattle.scim_hub.specs.Events.{HubEvent, HubOutput, HubState, none_joined, Runs}
use Rattle.scim_command.specs.Once.{IsStoreOf}
use Rattle.scim_command.specs.declared.faults.RunFault.{RunFault}
use Rattle.scim_command.specs.declared.faults.RunFault.TheVariants.{Policy, Users, Tokens, Events, Output, NoMemory}
use Rattle.scim_command.specs.declared.replays.Recording.{Recording}
use Rattle.scim_command.specs.EventFiles.{IsEventFile}
use Rattle.scim_command.specs.Outputs.{results_text}

module _ (policy : List Rule) (base : List ℕ) (entries : List Entry) (state : HubState) where
  -- the text is the lines for the results of these events, which a hub in this state handles in order
  pub record AreResultsOf (events : List HubEvent) (text : List ℕ) : Type 0 where
    pub results : List (Result (List HubOutput) HubFault)
    pub next : HubState
    pub runs : Runs policy base entries state events results next
    pub text_is : text ≡ results_text events results

-- the policy, the token and the users file are valid
pub record AreSound (r : Recording) : Type 0 where
  pub policy : IsOk (policy_of r.policy.now)
  pub tokens : IsOk (entries_in r.tokens.now)
  pub resources : List Content
  pub users : IsDocumentsText r.base.now r.users.now resources

-- the text is the lines for the results of the events in the events file, handled in order by a hub that has
-- no connections at first and has the policy, the resources and the tokens of the other files
pub record Replays (r : Recording) (text : List ℕ) : Type 0 where
  pub policy : List Rule
  pub allows : policy_of r.policy.now ≡ Ok policy
  pub store : Store
  pub holds : IsStoreOf r.base.now r.users.now store
  pub entries : List Entry
  pub knows : entries_in r.tokens.now ≡ Ok entries
  pub events : List HubEvent
  pub tells : IsEventFile r.events.now events
  pub answers : AreResultsOf policy r.base.now entries (none_joined store) events text

-- the faults of `replay`: an invalid policy, token, users or events file, a failed write, or failed
-- allocation
abbrev pub IsReplayFault : RunFault → Type 0
IsReplayFault (Policy rule cause) = Unit {0}
IsReplayFault (Users n) = Unit {0}
IsReplayFault (Tokens n) = Unit {0}
IsReplayFault (Events n) = Unit {0}
IsReplayFault Output = Unit {0}
IsReplayFault NoMemory = Unit {0}
IsReplayFault _ = ⊥
