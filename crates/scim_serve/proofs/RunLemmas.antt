-- The answers to the events of a run, carried out one after another.
use Rattle.std.proofs.Common.{◌≡◌, ◌∙◌, sym, ap, subst, ℕ, Bool, List, [], ◌∷◌, ◌++◌, append_assoc}
use Rattle.std.specs.Prelude.{Result}
use Rattle.std.proofs.lemmas.List.{append-nil}
use Rattle.scim_policy.specs.Rules.{Rule}
use Rattle.scim_token.specs.TokenFile.{Entry}
use Rattle.scim_hub.specs.declared.events.HubFault.{HubFault}
use Rattle.scim_hub.specs.Events.{HubEvent, HubOutput, HubState, Hears, Runs}
use Rattle.scim_serve.specs.declared.pending_bytes.Waiting.{Waiting}
use Rattle.scim_serve.specs.Serving.{due, is_shut}
use Rattle.scim_serve.specs.code.Served.{IsServed}

module _ (policy : List Rule) (base : List ℕ) (entries : List Entry) where
  -- the first event of a run, and the run of those behind it
  pub runs_first : (event : HubEvent) (events : List HubEvent) (result : Result (List HubOutput) HubFault) (results : List (Result (List HubOutput) HubFault)) (state next : HubState)
      → Runs policy base entries state (event ∷ events) (result ∷ results) next
      → (mid : HubState) × Hears policy base entries event state result mid × Runs policy base entries mid events results next
  runs_first event events result results state next (told, mid, rest, split, heard, runs) =
      let is : told ≡ result = cc in
      let are : rest ≡ results = cc in (
        mid,
        subst (λ (r : Result (List HubOutput) HubFault). Hears policy base entries event state r mid) is heard,
        subst (λ (rs : List (Result (List HubOutput) HubFault)). Runs policy base entries mid events rs next) are runs,
      )

  -- a run of no events
  pub served_none : (first state next : HubState) (seen events : List HubEvent) (written : ℕ → List ℕ) (takes closed : ℕ → Bool) (waiting : Waiting)
      (results more : List (Result (List HubOutput) HubFault)) → events ≡ [] → Runs policy base entries state events more next
      → IsServed first state seen written takes closed waiting (λ m. due m results) (λ m. is_shut m results)
      → IsServed first next (seen ++ events) written takes closed waiting (λ m. due m (results ++ more)) (λ m. is_shut m (results ++ more))
  served_none first state next seen (event ∷ events) written takes closed waiting results more none runs served = absurd (let n = none in cc)
  served_none first state next seen [] written takes closed waiting results more none (nothing, same) served =
      subst (λ (h : HubState). IsServed first h (seen ++ []) written takes closed waiting (λ m. due m (results ++ more)) (λ m. is_shut m (results ++ more))) (sym same)
      (subst (λ (s : List HubEvent). IsServed first state s written takes closed waiting (λ m. due m (results ++ more)) (λ m. is_shut m (results ++ more))) (sym (append-nil seen))
      (subst (λ (rs : List (Result (List HubOutput) HubFault)). IsServed first state seen written takes closed waiting (λ m. due m rs) (λ m. is_shut m rs))
      (sym (append-nil results) ∙ ap (λ (rs : List (Result (List HubOutput) HubFault)). results ++ rs) (sym nothing)) served))

-- the first event of a run and those behind it, in one list
pub served_joined : (first next : HubState) (seen events : List HubEvent) (event : HubEvent) (written : ℕ → List ℕ) (takes closed : ℕ → Bool) (waiting : Waiting)
    (results more : List (Result (List HubOutput) HubFault)) (result : Result (List HubOutput) HubFault)
    → IsServed first next ((seen ++ event ∷ []) ++ events) written takes closed waiting (λ m. due m ((results ++ result ∷ []) ++ more)) (λ m. is_shut m ((results ++ result ∷ []) ++ more))
    → IsServed first next (seen ++ event ∷ events) written takes closed waiting (λ m. due m (results ++ result ∷ more)) (λ m. is_shut m (results ++ result ∷ more))
served_joined first next seen events event written takes closed waiting results more result served =
    subst (λ (s : List HubEvent). IsServed first next s written takes closed waiting (λ m. due m (results ++ result ∷ more)) (λ m. is_shut m (results ++ result ∷ more)))
    (append_assoc seen (event ∷ []) events)
    (subst (λ (rs : List (Result (List HubOutput) HubFault)). IsServed first next ((seen ++ event ∷ []) ++ events) written takes closed waiting (λ m. due m rs) (λ m. is_shut m rs))
    (append_assoc results (result ∷ []) more) served)
