-- The promise over the bytes: what a client's connections carry is the same from two hubs over stores that are alike
-- for the client, however pieces are cut and connections interleave.
use Rattle.std.specs.Prelude.{◌≡◌, ◌≢◌, ◌⊎◌, ⊤, ◌≤◌, ℕ, Bool, true, false, List, [], ◌∷◌, ◌++◌, None, Some, Result, Ok, Err, All}
use Rattle.scim_text.specs.Moments.{last_moment}
use Rattle.scim_audit.specs.declared.refusals.Refusal.{Refusal}
use Rattle.scim_audit.specs.declared.refusals.Refusal.TheVariants.{Store as NoStore, IdInUse}
use Rattle.scim_wire.specs.declared.messages.Item.{Item}
use Rattle.scim_wire.specs.declared.messages.Item.TheVariants.{Whole}
use Rattle.scim_wire.specs.declared.replies.ReplyForm.{ReplyForm}
use Rattle.scim_wire.specs.Messages.{HasItems}
use Rattle.scim_token.specs.TokenFile.{Entry}
use Rattle.scim_policy.specs.Rules.{Rule}
use Rattle.scim_view.specs.View.{Viewer}
use Rattle.scim_shelf.specs.Stores.{IsStore}
use Rattle.scim_exchange.specs.Replies.{refusal_text}
use Rattle.scim_hub.specs.declared.events.HubFault.{HubFault}
use Rattle.scim_hub.specs.declared.events.HubFault.TheVariants.{NoMemory}
use Rattle.scim_hub.specs.Answering.{client_of}
use Rattle.scim_hub.specs.Events.{HubEvent, HubEventKind, sending, HubOutput, writing, shutting, HubState, Connection, joined, Hears, Runs}
use Rattle.scim_noninterference.specs.Alike.{IsAlike}
use Rattle.scim_noninterference.specs.Lists.{IsQuiet}

-- What comes of an event: its outputs, or a fault.
abbrev pub HubResult : Type 0
HubResult = Result (List HubOutput) HubFault

-- The connection that an output is for.
abbrev pub connection_of : HubOutput → ℕ
connection_of (writing n text) = n
connection_of (shutting n) = n

-- All outputs of an event are for its own connection.
abbrev pub OutputsAreForTheirConnection : Type 0
OutputsAreForTheirConnection =
    (v : Viewer) (entries : List Entry) (event : HubEvent) (state next : HubState) (outputs : List HubOutput)
    → Hears v.policy v.base entries event state (Ok outputs) next → All (λ output. connection_of output ≡ event.connection) outputs

-- A run through the events of two lists falls into a run through the first and one through the second.
abbrev pub RunsInParts : Type 0
RunsInParts =
    (policy : List Rule) (base : List ℕ) (entries : List Entry) (state next : HubState) (before after : List HubEvent) (results : List HubResult)
    → Runs policy base entries state (before ++ after) results next
    → (mid : HubState) × (first : List HubResult) × (rest : List HubResult)
    × (results ≡ first ++ rest) × Runs policy base entries state before first mid × Runs policy base entries mid after rest next

-- The item is no message, or a message with the client's token, or one with no token that a client has. A malformed
-- message, one for a discovery page and one without a known token are answered without the store.
-- Example: a message with the token of `mail` is from `mail`; so is one with a token that was taken out of the file.
abbrev pub IsFrom : List Entry → List ℕ → Item → Type 0
IsFrom entries client (Whole message) = (client_of entries message.token ≡ Some client) ⊎ (client_of entries message.token ≡ None)
IsFrom entries client _ = ⊤

-- All items that an event of this kind completes on a connection are from the client.
abbrev pub AreFrom : List Entry → List ℕ → Connection → HubEventKind → Type 0
AreFrom entries client (joined stream items) (sending bytes) = (new : List Item) → HasItems (stream ++ bytes) (items ++ new) → All (IsFrom entries client) new
AreFrom entries client _ _ = ⊤

-- The text reports that a request failed (500), or that the id drawn for a new resource is in use (503).
pub record IsFailure (text : List ℕ) : Type 0 where
  pub refusal : Refusal
  pub is_one : (refusal ≡ NoStore) ⊎ (refusal ≡ IdInUse)
  pub form : ReplyForm
  pub text_is : text ≡ refusal_text refusal form

-- Memory didn't run out, and no text that is written reports a failure.
abbrev pub IsUnfailed : HubResult → Type 0
IsUnfailed (Ok outputs) = All (λ output. (n : ℕ) (text : List ℕ) → output ≡ writing n text → ¬ (IsFailure text)) outputs
IsUnfailed (Err fault) = fault ≢ NoMemory

-- Two hubs are alike for a client whose connections are those for which `own` is true: these connections have read the
-- same, and the stores are valid and alike.
pub record AreAlike (v : Viewer) (own : ℕ → Bool) (a b : HubState) : Type 0 where
  pub connections : (n : ℕ) → own n ≡ true → a.connections n ≡ b.connections n
  pub valid : IsStore v.base a.store
  pub valid_too : IsStore v.base b.store
  pub stores : IsAlike v a.store.resources b.store.resources

-- Events of other connections at each of two hubs, and then the same event of a connection of the client at both: the
-- same piece, at the same moment, with the same first id.
pub record HubRound : Type 0 where
  pub first : List HubEvent
  pub second : List HubEvent
  pub own : HubEvent

-- The events are of connections of others, and at moments that can be written.
abbrev pub AreOfOthers : (ℕ → Bool) → List HubEvent → Type 0
AreOfOthers own events = All (λ event. (own event.connection ≡ false) × (event.stamp.moment ≤ last_moment)) events

-- A run of a hub in which each event changes the store quietly for the client, or not at all.
abbrev pub RunsQuietly : Viewer → List Entry → HubState → List HubEvent → List HubResult → HubState → Type 0
RunsQuietly v entries state [] results next = (results ≡ []) × (next ≡ state)
RunsQuietly v entries state (event ∷ events) results next =
    (result : HubResult) × (mid : HubState) × (rest : List HubResult)
    × (results ≡ result ∷ rest) × Hears v.policy v.base entries event state result mid
    × IsQuiet v state.store.resources mid.store.resources × RunsQuietly v entries mid events rest next

-- Quiet events of others lead from stores that are alike to stores that are.
abbrev pub QuietEventsLeadAlike : Type 0
QuietEventsLeadAlike =
    (v : Viewer) (entries : List Entry) (own : ℕ → Bool) (a b a_mid b_mid : HubState) (first second : List HubEvent) (others others_too : List HubResult)
    → IsStore v.base a.store → IsStore v.base b.store → AreOfOthers own first → AreOfOthers own second
    → RunsQuietly v entries a first others a_mid → RunsQuietly v entries b second others_too b_mid
    → Runs v.policy v.base entries a first others a_mid × Runs v.policy v.base entries b second others_too b_mid
    × (IsAlike v a.store.resources b.store.resources → IsAlike v a_mid.store.resources b_mid.store.resources)

-- A round at two hubs. The events of others lead from alike stores to alike stores; the client's event has its items
-- alone, and is answered without a failure.
pub record IsRound (v : Viewer) (entries : List Entry) (own : ℕ → Bool) (a b : HubState) (r : HubRound) : Type 0 where
  pub ours : own r.own.connection ≡ true
  pub moment : r.own.stamp.moment ≤ last_moment
  pub of_others : AreOfOthers own r.first × AreOfOthers own r.second
  pub others : List HubResult
  pub others_too : List HubResult
  pub a_mid : HubState
  pub b_mid : HubState
  pub runs : Runs v.policy v.base entries a r.first others a_mid
  pub runs_too : Runs v.policy v.base entries b r.second others_too b_mid
  pub lead : IsAlike v a.store.resources b.store.resources → IsAlike v a_mid.store.resources b_mid.store.resources
  pub from : AreFrom entries v.client (a_mid.connections r.own.connection) r.own.kind
  pub result : HubResult
  pub result_too : HubResult
  pub a_next : HubState
  pub b_next : HubState
  pub hears : Hears v.policy v.base entries r.own a_mid result a_next
  pub hears_too : Hears v.policy v.base entries r.own b_mid result_too b_next
  pub unfailed : IsUnfailed result × IsUnfailed result_too

-- Two runs of hubs, round by round; `results` and `results_too` are those of the client's events.
abbrev pub HearBeside : Viewer → List Entry → (ℕ → Bool) → HubState → HubState → List HubRound
    → List HubResult → List HubResult → HubState → HubState → Type 0
HearBeside v entries own a b [] results results_too a_end b_end = (results ≡ []) × (results_too ≡ []) × (a_end ≡ a) × (b_end ≡ b)
HearBeside v entries own a b (r ∷ rounds) results results_too a_end b_end =
    (round : IsRound v entries own a b r) × (rest : List HubResult) × (rest_too : List HubResult)
    × (results ≡ round.result ∷ rest) × (results_too ≡ round.result_too ∷ rest_too)
    × HearBeside v entries own round.a_next round.b_next rounds rest rest_too a_end b_end

-- From two hubs that are alike for a client, the same bytes are written to its connections, event by event, and the
-- hubs are alike afterwards.
abbrev pub ConnectionsCanNotTell : Type 0
ConnectionsCanNotTell =
    (v : Viewer) (entries : List Entry) (own : ℕ → Bool) (a b a_end b_end : HubState) (rounds : List HubRound) (results results_too : List HubResult)
    → AreAlike v own a b → HearBeside v entries own a b rounds results results_too a_end b_end
    → (results ≡ results_too) × AreAlike v own a_end b_end
