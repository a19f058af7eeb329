-- The exchange of one message: its answer and the store after it (RFC 7644 section 3).
use Rattle.std.specs.Prelude.{◌≡◌, ◌⊎◌, ℕ, List, Option, None, Some, Result, Ok, Err}
use Rattle.std.specs.Option.{option_copied}
use Rattle.scim_text.specs.declared.memory.Failed.{Failed}
use Rattle.scim_audit.specs.declared.refusals.Refusal.{Refusal}
use Rattle.scim_audit.specs.declared.refusals.Refusal.TheVariants.{NoToken, Store as NoStore}
use Rattle.scim_policy.specs.Rules.{Rule}
use Rattle.scim_shelf.specs.declared.faults.ShelfFault.{ShelfFault}
use Rattle.scim_shelf.specs.Stores.{Store}
use Rattle.scim_wire.specs.declared.messages.Message.{Message}
use Rattle.scim_route.specs.declared.endpoints.DiscoveryPage.{DiscoveryPage}
use Rattle.scim_route.specs.declared.routes.Route.{Route}
use Rattle.scim_route.specs.declared.routes.Found.{Found}
use Rattle.scim_route.specs.declared.routes.Found.TheVariants.{Discovery, Resource}
use Rattle.scim_route.specs.Targets.{query_of}
use Rattle.scim_route.specs.Routes.{named, Finds}
use Rattle.scim_discovery.specs.Pages.{Replies}
use Rattle.scim_exchange.specs.Asks.{Asks}
use Rattle.scim_service.specs.declared.requests.Turn.{Turn}
use Rattle.scim_service.specs.declared.replies.Reply.{Reply}
use Rattle.scim_service.specs.Answers.{Answered}
use Rattle.scim_exchange.specs.declared.exchanges.Arrival.{Arrival}
use Rattle.scim_exchange.specs.declared.answers.Answer.{Answer}
use Rattle.scim_exchange.specs.declared.answers.Answer.TheVariants.{Refused, Page as APage, Served}

-- `turn` is the input of the service for a message of `client` with this arrival, route and body
pub record IsTurnOf (client : List ℕ) (arrival : Arrival) (route : Route) (body : List ℕ) (turn : Turn) : Type 0 where
  pub client_is : turn.request.client ≡ client
  pub op_is : turn.request.op ≡ route.op
  pub kind_is : turn.request.kind ≡ route.kind
  pub id_is : turn.request.id ≡ route.id
  pub asks : Asks route body turn.request.ask
  pub moment_is : turn.moment ≡ arrival.moment
  pub fresh_is : turn.fresh ≡ arrival.fresh

-- the answer is `told`, and the store is unchanged
abbrev pub IsTold : Answer → Store → Answer → Store → Type 0
IsTold told store answer next = (answer ≡ told) × (next ≡ store)

-- the answer to a request for a discovery page: the page, or the refusal of the request
abbrev pub page_or : Result (List ℕ) Refusal → Answer
page_or (Ok text) = APage text
page_or (Err refusal) = Refused refusal

-- the answer to a request for a discovery page with this query string is the page or a refusal
abbrev pub IsPageOr : DiscoveryPage → Option (List ℕ) → Answer → Type 0
IsPageOr page query answer = (told : Result (List ℕ) Refusal) × Replies page query told × (answer ≡ page_or told)

-- the answer is the reply of the service to the message of `client`
abbrev pub IsServed : List ℕ → List Rule → List ℕ → (Failed ShelfFault → Type 0) → Arrival → Route → Message → Store → Answer → Store → Type 0
IsServed client policy base Cause arrival route message store answer next =
    (turn : Turn) × (reply : Reply)
    × IsTurnOf client arrival route message.body turn
    × Answered policy base Cause turn store reply next
    × (answer ≡ Served reply)

-- the answer is the service's reply, or the refusal `NoToken` if no client has the message's token
abbrev pub IsServedTo : Option (List ℕ) → List Rule → List ℕ → (Failed ShelfFault → Type 0) → Arrival → Route → Message → Store → Answer → Store → Type 0
IsServedTo None policy base Cause arrival route message store answer next = IsTold (Refused NoToken) store answer next
IsServedTo (Some client) policy base Cause arrival route message store answer next = IsServed client policy base Cause arrival route message store answer next

-- the answer for the result of finding the endpoint: the refusal if no endpoint was found; for a discovery
-- endpoint, which needs no token, the page or a refusal; for other endpoints, the service's reply or the
-- refusal `NoToken`
abbrev pub ComesOf : Result Found Refusal → List Rule → List ℕ → (Failed ShelfFault → Type 0) → Arrival → Message → Store → Answer → Store → Type 0
ComesOf (Err refusal) policy base Cause arrival message store answer next = IsTold (Refused refusal) store answer next
ComesOf (Ok (Discovery page query)) policy base Cause arrival message store answer next =
    IsPageOr page (option_copied query) answer × (next ≡ store)
ComesOf (Ok (Resource route)) policy base Cause arrival message store answer next =
    IsServedTo (option_copied arrival.client) policy base Cause arrival route message store answer next

-- the answer to a message and the store after it, with this policy and with resources below this base URI:
-- the answer of the endpoint that the method and target name, or the refusal `Store` if memory runs out
abbrev pub Exchanged : List Rule → List ℕ → (Failed ShelfFault → Type 0) → Arrival → Message → Store → Answer → Store → Type 0
Exchanged policy base Cause arrival message store answer next =
    ((found : Result Found Refusal)
    × Finds (named message.method message.target) (query_of message.target) found
    × ComesOf found policy base Cause arrival message store answer next)
    ⊎ IsTold (Refused NoStore) store answer next

-- the refusal `NoToken`, if there is no client
abbrev pub IsTokenless : Option (List ℕ) → Answer → Type 0
IsTokenless None answer = answer ≡ Refused NoToken
IsTokenless (Some client) answer = ⊥

-- the answer, without the service, for the result of finding the endpoint: the refusal if no endpoint was found;
-- the page or a refusal for a discovery endpoint; the refusal `NoToken` for other endpoints, if there is no client
abbrev pub IsTurnedAway : Result Found Refusal → Arrival → Answer → Type 0
IsTurnedAway (Err refusal) arrival answer = answer ≡ Refused refusal
IsTurnedAway (Ok (Discovery page query)) arrival answer = IsPageOr page (option_copied query) answer
IsTurnedAway (Ok (Resource route)) arrival answer = IsTokenless (option_copied arrival.client) answer

-- the answer to a message that the service doesn't answer: that of the endpoint which the method and target name,
-- or the refusal `Store`
abbrev pub IsUnserved : Arrival → Message → Answer → Type 0
IsUnserved arrival message answer =
    ((found : Result Found Refusal)
    × Finds (named message.method message.target) (query_of message.target) found
    × IsTurnedAway found arrival answer)
    ⊎ (answer ≡ Refused NoStore)
