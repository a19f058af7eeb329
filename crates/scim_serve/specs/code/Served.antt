-- The invariant of the loop of a server.
use Rattle.std.specs.Prelude.{◌≡◌, ℕ, Bool, false, List, [], Result}
use Rattle.scim_policy.specs.Rules.{Rule}
use Rattle.scim_token.specs.TokenFile.{Entry}
use Rattle.scim_token.specs.Tokens.{Knows}
use Rattle.scim_token.specs.declared.token_table.Tokens.{Tokens}
use Rattle.scim_hub.specs.declared.events.HubFault.{HubFault}
use Rattle.scim_hub.specs.Events.{HubEvent, HubOutput, HubState}
use Rattle.scim_serve.specs.declared.pending_bytes.Waiting.{Waiting}
use Rattle.scim_serve.specs.Occurrences.{Occurrence, heard, reloaded, RunsThrough}
use Rattle.scim_serve.specs.Serving.{due, is_shut}
use Rattle.scim_serve.specs.code.Closings.{IsClosing}
use Rattle.scim_serve.specs.code.Levels.{IsLevel}
use Rattle.scim_serve.specs.code.Wholes.{IsWhole}

-- after the events `seen`, which took the hub from the state `first` to `state`: the written and pending bytes
-- of all connections are those that must be written, and the connections that were shut are closed or to be
-- closed
pub record IsServed (first state : HubState) (seen : List HubEvent) (written : ℕ → List ℕ) (takes_all is_closed : ℕ → Bool) (waiting : Waiting) (due : ℕ → List ℕ)
    (shut : ℕ → Bool) : Type 0 where
  pub level : IsLevel written waiting due
  pub closing : IsClosing waiting shut
  pub whole : IsWhole first state seen written takes_all is_closed waiting due shut

-- where a server starts: the base URI, the policy and the tokens of its hub, and the hub's state
pub record Start : Type 0 where
  pub base : List ℕ
  pub policy : List Rule
  pub entries : List Entry
  pub state : HubState

-- what occurred since the start, with the events `seen`, has put this policy and these tokens in place and has
-- brought the hub into a state in which it is; the connections were served what is due to them
pub record IsReached (start : Start) (may_reload : Bool) (seen : List HubEvent) (written : ℕ → List ℕ) (takes_all is_closed : ℕ → Bool) (waiting : Waiting)
    (policy : List Rule) (tokens : Tokens) (IsIn : HubState → Type 0) : Type 0 where
  pub occurrences : List Occurrence
  pub results : List (Result (List HubOutput) HubFault)
  pub entries : List Entry
  pub state : HubState
  pub heard_is : heard occurrences ≡ seen
  pub none_reloaded : may_reload ≡ false → reloaded occurrences ≡ []
  pub knows : Knows entries tokens
  pub is_in : IsIn state
  pub runs : RunsThrough start.base start.policy start.entries start.state occurrences results policy entries state
  pub served : IsServed start.state state seen written takes_all is_closed waiting (λ m. due m results) (λ m. is_shut m results)
