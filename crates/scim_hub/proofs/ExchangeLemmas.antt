-- What a message comes to, whatever made it fail.
use Rattle.std.proofs.Common.{◌≡◌, inl, inr, ℕ, List, Result, Ok, Err, Option, None, Some}
use Rattle.std.specs.Option.{option_copied}
use Rattle.std.specs.Bool.{⊤}
use Rattle.scim_text.specs.declared.memory.Failed.{Failed}
use Rattle.scim_audit.specs.declared.refusals.Refusal.{Refusal}
use Rattle.scim_policy.specs.Rules.{Rule}
use Rattle.scim_shelf.specs.declared.faults.ShelfFault.{ShelfFault}
use Rattle.scim_shelf.specs.Stores.{Store, IsStore}
use Rattle.scim_wire.specs.declared.messages.Message.{Message}
use Rattle.scim_route.specs.declared.routes.Route.{Route}
use Rattle.scim_route.specs.declared.routes.Found.{Found}
use Rattle.scim_route.specs.declared.routes.Found.TheVariants.{Discovery, Resource}
use Rattle.scim_service.specs.declared.requests.Turn.{Turn}
use Rattle.scim_service.specs.declared.replies.Reply.{Reply}
use Rattle.scim_service.specs.Answers.{Answered}
use Rattle.scim_exchange.specs.declared.answers.Answer.{Answer}
use Rattle.scim_exchange.specs.declared.exchanges.Arrival.{Arrival}
use Rattle.scim_exchange.specs.Exchanges.{IsServedTo, ComesOf, Exchanged}
use Rattle.scim_hub.specs.declared.answering.Serving.{Serving}
use Rattle.scim_hub.specs.declared.answering.Serving.TheVariants.{Live, Lost}
use Rattle.scim_hub.specs.code.Replies.{IsOver}

module _ (policy : List Rule) (base : List ℕ) (Cause : Failed ShelfFault → Type 0) where
  answered_weaker : (turn : Turn) (store : Store) (reply : Reply) (next : Store)
      → Answered policy base Cause turn store reply next → Answered policy base (λ _. ⊤) turn store reply next
  answered_weaker turn store reply next (inl untold) = inl untold
  answered_weaker turn store reply next (inr (told, inl done)) = inr (told, inl done)
  answered_weaker turn store reply next (inr (told, inr (fault, said, cause, kept))) = inr (told, inr (fault, said, tt, kept))

  served_weaker : (client : Option (List ℕ)) (arrival : Arrival) (route : Route) (message : Message) (store : Store) (answer : Answer) (next : Store)
      → IsServedTo client policy base Cause arrival route message store answer next → IsServedTo client policy base (λ _. ⊤) arrival route message store answer next
  served_weaker None arrival route message store answer next told = told
  served_weaker (Some client) arrival route message store answer next (turn, reply, is, answered, told) =
      (turn, reply, is, answered_weaker turn store reply next answered, told)

  comes_weaker : (found : Result Found Refusal) (arrival : Arrival) (message : Message) (store : Store) (answer : Answer) (next : Store)
      → ComesOf found policy base Cause arrival message store answer next → ComesOf found policy base (λ _. ⊤) arrival message store answer next
  comes_weaker (Err refusal) arrival message store answer next told = told
  comes_weaker (Ok (Discovery page query)) arrival message store answer next told = told
  comes_weaker (Ok (Resource route)) arrival message store answer next served =
      served_weaker (option_copied arrival.client) arrival route message store answer next served

  -- a turn may fail for whatever cause
  pub exchanged_weaker : (arrival : Arrival) (message : Message) (store : Store) (answer : Answer) (next : Store)
      → Exchanged policy base Cause arrival message store answer next → Exchanged policy base (λ _. ⊤) arrival message store answer next
  exchanged_weaker arrival message store answer next (inl (found, finds, comes)) =
      inl (found, finds, comes_weaker found arrival message store answer next comes)
  exchanged_weaker arrival message store answer next (inr told) = inr told

-- what comes of the shelf's store comes of the store that the service answers over
pub over_live : {H : Type 0} (serving : Serving) (Stands : H → Store → Type 0) (held : Option Store) (old new : H) (base : List ℕ) (Q : Store → Type 0) → serving ≡ Live
    → (store : Store) → (Stands old store → (next : Store) × Stands new next × IsStore base next × Q next)
    → IsOver serving Stands held old store → (next : Store) × IsOver serving Stands held new next × IsStore base next × Q next
over_live Live Stands None old new base Q is store done over = done over
over_live Live Stands (Some held) old new base Q is store done over = absurd over
over_live Lost Stands held old new base Q is store done over = absurd (cc)

-- without it the store stays
pub over_lost : {H : Type 0} (serving : Serving) (Stands : H → Store → Type 0) (held : Option Store) (old new : H) (base : List ℕ) (Q : Store → Type 0) → serving ≡ Lost
    → (store : Store) → IsStore base store → Q store
    → IsOver serving Stands held old store → (next : Store) × IsOver serving Stands held new next × IsStore base next × Q next
over_lost Lost Stands (Some held) old new base Q is store kept done over = (store, over, kept, done)
over_lost Lost Stands None old new base Q is store kept done over = absurd over
over_lost Live Stands held old new base Q is store kept done over = absurd (cc)
