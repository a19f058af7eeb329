-- What occurs, with more occurrences.
use Rattle.std.proofs.Common.{◌≡◌, refl, sym, ap, subst, ℕ, List, [], ◌∷◌, ◌++◌, map}
use Rattle.std.specs.Prelude.{Result}
use Rattle.scim_policy.specs.Rules.{Rule}
use Rattle.scim_token.specs.TokenFile.{Entry}
use Rattle.scim_hub.specs.declared.events.HubFault.{HubFault}
use Rattle.scim_hub.specs.Events.{HubEvent, HubState, HubOutput, Hears, Runs}
use Rattle.scim_serve.specs.Occurrences.{Occurrence, hears, reloads, heard, reloaded, RunsThrough}

-- one more event is heard
pub heard_more : (occurrences : List Occurrence) (event : HubEvent) → heard (occurrences ++ hears event ∷ []) ≡ heard occurrences ++ event ∷ []
heard_more [] event = refl
heard_more (hears first ∷ more) event = ap (λ (events : List HubEvent). first ∷ events) (heard_more more event)
heard_more (reloads policy entries ∷ more) event = heard_more more event

-- a reload isn't heard
pub heard_still : (occurrences : List Occurrence) (policy : List Rule) (entries : List Entry) → heard (occurrences ++ reloads policy entries ∷ []) ≡ heard occurrences
heard_still [] policy entries = refl
heard_still (hears first ∷ more) policy entries = ap (λ (events : List HubEvent). first ∷ events) (heard_still more policy entries)
heard_still (reloads policy_first entries_first ∷ more) policy entries = heard_still more policy entries

-- an event reloads nothing
pub reloaded_still : (occurrences : List Occurrence) (event : HubEvent) → reloaded (occurrences ++ hears event ∷ []) ≡ reloaded occurrences
reloaded_still [] event = refl
reloaded_still (hears first ∷ more) event = reloaded_still more event
reloaded_still (reloads policy entries ∷ more) event = ap (λ (policies : List (List Rule)). policy ∷ policies) (reloaded_still more event)

-- several events are heard
pub heard_all : (occurrences : List Occurrence) (events : List HubEvent) → heard (occurrences ++ map hears events) ≡ heard occurrences ++ events
heard_all [] [] = refl
heard_all [] (event ∷ events) = ap (λ (rest : List HubEvent). event ∷ rest) (heard_all [] events)
heard_all (hears first ∷ more) events = ap (λ (rest : List HubEvent). first ∷ rest) (heard_all more events)
heard_all (reloads policy entries ∷ more) events = heard_all more events

-- several events reload nothing
pub reloaded_all : (occurrences : List Occurrence) (events : List HubEvent) → reloaded (occurrences ++ map hears events) ≡ reloaded occurrences
reloaded_all [] [] = refl
reloaded_all [] (event ∷ events) = reloaded_all [] events
reloaded_all (hears first ∷ more) events = reloaded_all more events
reloaded_all (reloads policy entries ∷ more) events = ap (λ (policies : List (List Rule)). policy ∷ policies) (reloaded_all more events)

module _ (base : List ℕ) (policy_last : List Rule) (entries_last : List Entry) where
  -- an event is heard under the policy and the tokens that are in place at last
  pub through_hears : (event : HubEvent) (result : Result (List HubOutput) HubFault) (next : HubState) (policy : List Rule) (entries : List Entry) (state mid : HubState)
      (occurrences : List Occurrence) (results : List (Result (List HubOutput) HubFault))
      → RunsThrough base policy entries state occurrences results policy_last entries_last mid → Hears policy_last base entries_last event mid result next
      → RunsThrough base policy entries state (occurrences ++ hears event ∷ []) (results ++ result ∷ []) policy_last entries_last next
  through_hears event result next policy entries state mid [] results (none, same_policy, same_entries, same) step = (
    result,
    next,
    [],
    ap (λ (rs : List (Result (List HubOutput) HubFault)). rs ++ result ∷ []) none,
    subst (λ (p : List Rule). Hears p base entries event state result next) same_policy
        (subst (λ (es : List Entry). Hears policy_last base es event state result next) same_entries
        (subst (λ (h : HubState). Hears policy_last base entries_last event h result next) same step)),
    (refl, same_policy, same_entries, refl),
  )
  through_hears event result next policy entries state mid (hears seen ∷ more) results (first, after, rest, split, heard, runs) step = (
    first,
    after,
    rest ++ result ∷ [],
    ap (λ (rs : List (Result (List HubOutput) HubFault)). rs ++ result ∷ []) split,
    heard,
    through_hears event result next policy entries after mid more rest runs step,
  )
  through_hears event result next policy entries state mid (reloads policy_then entries_then ∷ more) results runs step =
      through_hears event result next policy_then entries_then state mid more results runs step

  -- a reload puts its policy and its tokens in place
  pub through_reloads : (policy_next : List Rule) (entries_next : List Entry) (policy : List Rule) (entries : List Entry) (state mid : HubState)
      (occurrences : List Occurrence) (results : List (Result (List HubOutput) HubFault))
      → RunsThrough base policy entries state occurrences results policy_last entries_last mid
      → RunsThrough base policy entries state (occurrences ++ reloads policy_next entries_next ∷ []) results policy_next entries_next mid
  through_reloads policy_next entries_next policy entries state mid [] results (none, same_policy, same_entries, same) = (none, refl, refl, same)
  through_reloads policy_next entries_next policy entries state mid (hears seen ∷ more) results (first, after, rest, split, heard, runs) =
      (first, after, rest, split, heard, through_reloads policy_next entries_next policy entries after mid more rest runs)
  through_reloads policy_next entries_next policy entries state mid (reloads policy_then entries_then ∷ more) results runs =
      through_reloads policy_next entries_next policy_then entries_then state mid more results runs

  -- a run of events goes through them without a reload
  through_all : (events : List HubEvent) (results : List (Result (List HubOutput) HubFault)) (state next : HubState)
      → Runs policy_last base entries_last state events results next → RunsThrough base policy_last entries_last state (map hears events) results policy_last entries_last next
  through_all [] results state next (none, same) = (none, refl, refl, same)
  through_all (event ∷ events) results state next (result, mid, rest, split, heard, runs) =
      (result, mid, rest, split, heard, through_all events rest mid next runs)

  -- events are heard, one after another, under the policy and the tokens that are in place at last
  pub through_runs : (events : List HubEvent) (more : List (Result (List HubOutput) HubFault)) (next : HubState) (policy : List Rule) (entries : List Entry) (state mid : HubState)
      (occurrences : List Occurrence) (results : List (Result (List HubOutput) HubFault))
      → RunsThrough base policy entries state occurrences results policy_last entries_last mid → Runs policy_last base entries_last mid events more next
      → RunsThrough base policy entries state (occurrences ++ map hears events) (results ++ more) policy_last entries_last next
  through_runs events more next policy entries state mid [] results (none, same_policy, same_entries, same) runs =
      subst (λ (rs : List (Result (List HubOutput) HubFault)). RunsThrough base policy entries state (map hears events) (rs ++ more) policy_last entries_last next) (sym none)
      (subst (λ (p : List Rule). RunsThrough base p entries state (map hears events) more policy_last entries_last next) same_policy
      (subst (λ (es : List Entry). RunsThrough base policy_last es state (map hears events) more policy_last entries_last next) same_entries
      (subst (λ (h : HubState). RunsThrough base policy_last entries_last h (map hears events) more policy_last entries_last next) same
      (through_all events more mid next runs))))
  through_runs events more next policy entries state mid (hears seen ∷ rest) results (first, after, later, split, heard, through) runs = (
    first,
    after,
    later ++ more,
    ap (λ (rs : List (Result (List HubOutput) HubFault)). rs ++ more) split,
    heard,
    through_runs events more next policy entries after mid rest later through runs,
  )
  through_runs events more next policy entries state mid (reloads policy_then entries_then ∷ rest) results through runs =
      through_runs events more next policy_then entries_then state mid rest results through runs
