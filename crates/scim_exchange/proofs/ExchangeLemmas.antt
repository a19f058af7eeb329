-- What a message comes to, by what it names.
use Rattle.std.proofs.Common.{◌≡◌, ◌⊎◌, refl, ap, inl, inr, ℕ, List, Result, Ok, Err, Option, None, Some}
use Rattle.std.specs.Option.{option_copied}
use Rattle.scim_text.specs.declared.memory.Failed.{Failed}
use Rattle.scim_text.specs.declared.memory.Failed.TheVariants.{Because, NoMemory}
use Rattle.scim_text.specs.Failures.{IfBecause}
use Rattle.scim_audit.specs.declared.refusals.Refusal.{Refusal}
use Rattle.scim_audit.specs.declared.refusals.Refusal.TheVariants.{Store as NoStore}
use Rattle.scim_policy.specs.Rules.{Rule}
use Rattle.scim_shelf.specs.declared.faults.ShelfFault.{ShelfFault}
use Rattle.scim_shelf.specs.Stores.{Store}
use Rattle.scim_wire.specs.declared.messages.Message.{Message}
use Rattle.scim_route.specs.declared.routes.Route.{Route}
use Rattle.scim_route.specs.declared.routes.Found.{Found}
use Rattle.scim_route.specs.declared.routes.Found.TheVariants.{Discovery, Resource}
use Rattle.scim_route.specs.Targets.{query_of}
use Rattle.scim_route.specs.Routes.{named, Finds}
use Rattle.scim_exchange.specs.declared.answers.Answer.{Answer}
use Rattle.scim_exchange.specs.declared.answers.Answer.TheVariants.{Refused}
use Rattle.scim_exchange.specs.declared.exchanges.Arrival.{Arrival}
use Rattle.scim_exchange.specs.Exchanges.{IsTold, IsServedTo, ComesOf, Exchanged, IsTokenless, IsTurnedAway, IsUnserved}
use Rattle.scim_exchange.specs.code.Faults.{refusal_for}

-- what comes of what the message names, or want of memory
pub exchanged : (policy : List Rule) (base : List ℕ) (Cause : Failed ShelfFault → Type 0) (arrival : Arrival) (message : Message) (store : Store)
    (answer : Answer) (next : Store) (found : Result Found Refusal)
    → Finds (named message.method message.target) (query_of message.target) found
    → ComesOf found policy base Cause arrival message store answer next ⊎ IsTold (Refused NoStore) store answer next
    → Exchanged policy base Cause arrival message store answer next
exchanged policy base Cause arrival message store answer next found finds (inl comes) = inl (found, finds, comes)
exchanged policy base Cause arrival message store answer next found finds (inr told) = inr told

-- a request without a client is refused
tokenless : (policy : List Rule) (base : List ℕ) (Cause : Failed ShelfFault → Type 0) (arrival : Arrival) (route : Route) (message : Message) (store : Store)
    (answer : Answer) (client : Option (List ℕ))
    → IsTokenless client answer → IsServedTo client policy base Cause arrival route message store answer store
tokenless policy base Cause arrival route message store answer None is = (is, refl)
tokenless policy base Cause arrival route message store answer (Some client) is = absurd is

-- an answer without the service leaves the store, whatever it is
comes_unserved : (policy : List Rule) (base : List ℕ) (Cause : Failed ShelfFault → Type 0) (arrival : Arrival) (message : Message) (store : Store)
    (answer : Answer) (found : Result Found Refusal)
    → IsTurnedAway found arrival answer → ComesOf found policy base Cause arrival message store answer store
comes_unserved policy base Cause arrival message store answer (Err refusal) turned = (turned, refl)
comes_unserved policy base Cause arrival message store answer (Ok (Discovery page query)) turned = (turned, refl)
comes_unserved policy base Cause arrival message store answer (Ok (Resource route)) turned =
    tokenless policy base Cause arrival route message store answer (option_copied arrival.client) turned

pub exchanged_unserved : (policy : List Rule) (base : List ℕ) (Cause : Failed ShelfFault → Type 0) (arrival : Arrival) (message : Message) (store : Store)
    (answer : Answer) → IsUnserved arrival message answer → Exchanged policy base Cause arrival message store answer store
exchanged_unserved policy base Cause arrival message store answer (inl (found, finds, turned)) =
    inl (found, finds, comes_unserved policy base Cause arrival message store answer found turned)
exchanged_unserved policy base Cause arrival message store answer (inr is) = inr (is, refl)

-- what a message that names no resource is told
pub unserved : (arrival : Arrival) (message : Message) (answer : Answer) (found : Result Found Refusal)
    → Finds (named message.method message.target) (query_of message.target) found
    → IsTurnedAway found arrival answer ⊎ (answer ≡ Refused NoStore) → IsUnserved arrival message answer
unserved arrival message answer found finds (inl turned) = inl (found, finds, turned)
unserved arrival message answer found finds (inr is) = inr is

-- a message that names nothing is refused, and so it is where memory was wanting
pub refused : (arrival : Arrival) (message : Message) (fault : Failed Refusal) (told : Refusal)
    → IfBecause (λ e. Finds (named message.method message.target) (query_of message.target) (Err e)) fault → told ≡ refusal_for fault
    → IsUnserved arrival message (Refused told)
refused arrival message (Because refusal) told finds is = inl (Err refusal, finds, ap Refused is)
refused arrival message NoMemory told finds is = inr (ap Refused is)
