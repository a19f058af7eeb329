-- What the exits of `once` show.
use Rattle.std.proofs.Common.{◌≡◌, subst, inl, inr, ℕ, List, Result, Ok, Err, IfOk, IfSome, Option, None, Some, String, string_bytes, refl}
use Rattle.std.specs.Option.{option_copied}
use Rattle.std.specs.Bool.{⊤}
use Rattle.std.specs.declared.alloc.Global.{Global}
use Rattle.scim_text.specs.declared.memory.NoMemory.{NoMemory}
use Rattle.scim_text.specs.declared.memory.Failed.{Failed}
use Rattle.scim_audit.specs.declared.refusals.Refusal.{Refusal}
use Rattle.scim_policy.specs.Rules.{Rule}
use Rattle.scim_policy_file.specs.File.{policy_of}
use Rattle.scim_shelf.specs.declared.faults.ShelfFault.{ShelfFault}
use Rattle.scim_shelf.specs.Stores.{Store}
use Rattle.scim_wire.specs.declared.messages.Message.{Message}
use Rattle.scim_route.specs.declared.routes.Route.{Route}
use Rattle.scim_route.specs.declared.routes.Found.{Found}
use Rattle.scim_route.specs.declared.routes.Found.TheVariants.{Discovery, Resource}
use Rattle.scim_service.specs.declared.requests.Turn.{Turn}
use Rattle.scim_service.specs.declared.replies.Reply.{Reply}
use Rattle.scim_service.specs.Answers.{Answered}
use Rattle.scim_exchange.specs.declared.answers.Answer.{Answer}
use Rattle.scim_exchange.specs.declared.exchanges.Arrival.{Arrival}
use Rattle.scim_exchange.specs.Exchanges.{IsServedTo, ComesOf, Exchanged}
use Rattle.scim_command.specs.declared.run_once.Setting.{Setting}
use Rattle.scim_command.specs.Inputs.{OpensWith}
use Rattle.scim_command.specs.Once.{IsStoreOf, IsAnswer, IsReplyToFirst, Answers, AreSound, arrival_of}
use Rattle.scim_command.specs.code.Exits.{text_or_store}

answered_weaker : (policy : List Rule) (base : List ℕ) (Cause : Failed ShelfFault → Type 0) (turn : Turn) (store : Store) (reply : Reply) (next : Store)
    → Answered policy base Cause turn store reply next → Answered policy base (λ _. ⊤) turn store reply next
answered_weaker policy base Cause turn store reply next (inl untold) = inl untold
answered_weaker policy base Cause turn store reply next (inr (told, inl done)) = inr (told, inl done)
answered_weaker policy base Cause turn store reply next (inr (told, inr (fault, said, cause, kept))) = inr (told, inr (fault, said, tt, kept))

served_weaker : (client : Option (List ℕ)) (policy : List Rule) (base : List ℕ) (Cause : Failed ShelfFault → Type 0) (arrival : Arrival) (route : Route)
    (message : Message) (store : Store) (answer : Answer) (next : Store)
    → IsServedTo client policy base Cause arrival route message store answer next → IsServedTo client policy base (λ _. ⊤) arrival route message store answer next
served_weaker None policy base Cause arrival route message store answer next told = told
served_weaker (Some client) policy base Cause arrival route message store answer next (turn, reply, is, answered, told) =
    (turn, reply, is, answered_weaker policy base Cause turn store reply next answered, told)

comes_weaker : (found : Result Found Refusal) (policy : List Rule) (base : List ℕ) (Cause : Failed ShelfFault → Type 0) (arrival : Arrival)
    (message : Message) (store : Store) (answer : Answer) (next : Store)
    → ComesOf found policy base Cause arrival message store answer next → ComesOf found policy base (λ _. ⊤) arrival message store answer next
comes_weaker (Err refusal) policy base Cause arrival message store answer next told = told
comes_weaker (Ok (Discovery page query)) policy base Cause arrival message store answer next told = told
comes_weaker (Ok (Resource route)) policy base Cause arrival message store answer next served =
    served_weaker (option_copied arrival.client) policy base Cause arrival route message store answer next served

-- a turn may fail for whatever cause
pub exchanged_weaker : (policy : List Rule) (base : List ℕ) (Cause : Failed ShelfFault → Type 0) (arrival : Arrival) (message : Message) (store : Store)
    (answer : Answer) (next : Store)
    → Exchanged policy base Cause arrival message store answer next → Exchanged policy base (λ _. ⊤) arrival message store answer next
exchanged_weaker policy base Cause arrival message store answer next (inl (found, finds, comes)) =
    inl (found, finds, comes_weaker found policy base Cause arrival message store answer next comes)
exchanged_weaker policy base Cause arrival message store answer next (inr told) = inr told

-- a reply to what was read first
pub answers_first : (policy : List Rule) (base : List ℕ) (arrival : Arrival) (store : Store) (known : Option (List ℕ)) (first : Result Message Refusal)
    (reply : Result (String Global) NoMemory)
    → IfSome known (λ input. OpensWith input first) → IfOk reply (λ t. IsReplyToFirst policy base arrival store first (string_bytes t))
    → IfSome known (λ input. IsAnswer policy base arrival store input (text_or_store reply))
answers_first policy base arrival store None first reply opens is = tt
answers_first policy base arrival store (Some input) first (Ok t) opens is = inl (first, opens, is)
answers_first policy base arrival store (Some input) first (Err e) opens is = inr refl

-- an answer over that store is the answer by the two files
pub answers_files : (s : Setting) (policy : List Rule) (base : List ℕ) (store : Store) (known : Option (List ℕ)) (text : List ℕ)
    → policy_of s.policy.now ≡ Ok policy → base ≡ s.base.now → IsStoreOf s.base.now s.users.now store
    → IfSome known (λ input. IsAnswer policy base (arrival_of s) store input text) → IfSome known (λ input. Answers s input text)
answers_files s policy base store None text allows same of is = tt
answers_files s policy base store (Some input) text allows same of is = record {
  policy = policy;
  store = store;
  allows = allows;
  holds = of;
  answer = subst (λ (b : List ℕ). IsAnswer policy b (arrival_of s) store input text) same is;
}

-- what was written is an answer
pub written : (A : List ℕ → List ℕ → Type 0) (W : List ℕ → Type 0) (known : Option (List ℕ)) (text : List ℕ) → IfSome known (λ input. A input text) → W text
    → IfSome known (λ input. (output : List ℕ) × A input output × W output)
written A W None text is wrote = tt
written A W (Some input) text is wrote = (text, is, wrote)

-- files that a store was made of are sound
pub sound_files : (s : Setting) (policy : List Rule) (store : Store) → policy_of s.policy.now ≡ Ok policy → IsStoreOf s.base.now s.users.now store → AreSound s
sound_files s policy store allows of = record { policy = rw allows refl; resources = of.resources; users = of.documents }
