-- One more event.
use Rattle.std.proofs.Common.{refl, ap, subst, ℕ, List, [], ◌∷◌, ◌++◌}
use Rattle.std.specs.Prelude.{Result}
use Rattle.scim_policy.specs.Rules.{Rule}
use Rattle.scim_token.specs.TokenFile.{Entry}
use Rattle.scim_hub.specs.declared.events.HubFault.{HubFault}
use Rattle.scim_hub.specs.Events.{HubEvent, HubState, HubOutput, Hears, Runs}

module _ (policy : List Rule) (base : List ℕ) (entries : List Entry) (event : HubEvent) (result : Result (List HubOutput) HubFault) (next : HubState) where
  -- the answers, with one more
  pub runs_more : (state mid : HubState) (events : List HubEvent) (results : List (Result (List HubOutput) HubFault))
      → Runs policy base entries state events results mid → Hears policy base entries event mid result next
      → Runs policy base entries state (events ++ event ∷ []) (results ++ result ∷ []) next
  runs_more state mid [] results (none, same) step = (
    result,
    next,
    [],
    ap (λ (rs : List (Result (List HubOutput) HubFault)). rs ++ result ∷ []) none,
    subst (λ (h : HubState). Hears policy base entries event h result next) same step,
    (refl, refl),
  )
  runs_more state mid (seen ∷ events) results (first, after, rest, split, heard, runs) step = (
    first,
    after,
    rest ++ result ∷ [],
    ap (λ (rs : List (Result (List HubOutput) HubFault)). rs ++ result ∷ []) split,
    heard,
    runs_more after mid events rest runs step,
  )
