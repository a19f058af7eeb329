-- What is reached, after one more report of the connections.
use Rattle.std.proofs.Common.{◌≡◌, ◌∙◌, refl, sym, ap, subst, ℕ, Bool, true, false, List, [], ◌∷◌, ◌++◌, map}
use Rattle.std.specs.Prelude.{◌||◌, Result}
use Rattle.scim_policy.specs.Rules.{Rule}
use Rattle.scim_token.specs.TokenFile.{Entry}
use Rattle.scim_token.specs.Tokens.{Knows}
use Rattle.scim_token.specs.declared.token_table.Tokens.{Tokens}
use Rattle.scim_hub.specs.declared.events.HubFault.{HubFault}
use Rattle.scim_hub.specs.Events.{HubEvent, HubOutput, HubState, Hears, Runs}
use Rattle.scim_serve.specs.declared.pending_bytes.Waiting.{Waiting}
use Rattle.scim_serve.specs.Occurrences.{Occurrence, hears, reloads, heard, reloaded, RunsThrough}
use Rattle.scim_serve.specs.Serving.{AreServed, due, due_for, is_shut, shut_for}
use Rattle.scim_serve.specs.code.Served.{IsServed, IsReached, Start}
use Rattle.scim_serve.proofs.OccurrenceLemmas.{heard_more, heard_still, heard_all, reloaded_still, reloaded_all, through_hears, through_reloads, through_runs}
use Rattle.scim_serve.proofs.ServedLemmas.{served_same, served_more, served_each}

module _ (start : Start) (may_reload : Bool) (seen : List HubEvent) (written written_then : ℕ → List ℕ) (takes takes_then closed closed_then : ℕ → Bool) (old new : Waiting)
    (policy policy_then : List Rule) (tokens tokens_then : Tokens) (IsIn IsInThen : HubState → Type 0) where
  -- the hub's policy and tokens are kept, and nothing was heard
  pub reached_still : policy_then ≡ policy → tokens_then ≡ tokens → ((state : HubState) → IsIn state → IsInThen state)
      → ((state : HubState) (results : List (Result (List HubOutput) HubFault))
      → IsServed start.state state seen written takes closed old (λ m. due m results) (λ m. is_shut m results)
      → IsServed start.state state seen written_then takes_then closed_then new (λ m. due m results) (λ m. is_shut m results))
      → IsReached start may_reload seen written takes closed old policy tokens IsIn
      → IsReached start may_reload seen written_then takes_then closed_then new policy_then tokens_then IsInThen
  reached_still same_policy same_tokens stays serves reached = record {
    occurrences = reached.occurrences;
    results = reached.results;
    entries = reached.entries;
    state = reached.state;
    heard_is = reached.heard_is;
    none_reloaded = reached.none_reloaded;
    knows = subst (λ (t : Tokens). Knows reached.entries t) (sym same_tokens) reached.knows;
    is_in = stays reached.state reached.is_in;
    runs = subst (λ (p : List Rule). RunsThrough start.base start.policy start.entries start.state reached.occurrences reached.results p reached.entries reached.state) (sym same_policy) reached.runs;
    served = serves reached.state reached.results reached.served;
  }

  -- the hub has a policy and tokens that may be others, and nothing was heard
  reached_reload : may_reload ≡ true → ((entries : List Entry) → Knows entries tokens → (next : List Entry) × Knows next tokens_then) → ((state : HubState) → IsIn state → IsInThen state)
      → ((state : HubState) (results : List (Result (List HubOutput) HubFault))
      → IsServed start.state state seen written takes closed old (λ m. due m results) (λ m. is_shut m results)
      → IsServed start.state state seen written_then takes_then closed_then new (λ m. due m results) (λ m. is_shut m results))
      → IsReached start may_reload seen written takes closed old policy tokens IsIn
      → IsReached start may_reload seen written_then takes_then closed_then new policy_then tokens_then IsInThen
  reached_reload may knows stays serves reached =
      let next = knows reached.entries reached.knows in
      record {
        occurrences = reached.occurrences ++ reloads policy_then next.0 ∷ [];
        results = reached.results;
        entries = next.0;
        state = reached.state;
        heard_is = heard_still reached.occurrences policy_then next.0 ∙ reached.heard_is;
        none_reloaded = λ never. absurd (let m = may in let n = never in cc);
        knows = next.1;
        is_in = stays reached.state reached.is_in;
        runs = through_reloads start.base policy reached.entries policy_then next.0 start.policy start.entries start.state reached.state reached.occurrences reached.results reached.runs;
        served = serves reached.state reached.results reached.served;
      }

  -- the operator handled what interrupts the serving of clients
  pub reached_pause : (may : Bool) → may_reload ≡ may → (may_reload ≡ false → (policy_then ≡ policy) × (tokens_then ≡ tokens))
      → ((entries : List Entry) → Knows entries tokens → (next : List Entry) × Knows next tokens_then) → ((state : HubState) → IsIn state → IsInThen state)
      → ((state : HubState) (results : List (Result (List HubOutput) HubFault))
      → IsServed start.state state seen written takes closed old (λ m. due m results) (λ m. is_shut m results)
      → IsServed start.state state seen written_then takes_then closed_then new (λ m. due m results) (λ m. is_shut m results))
      → IsReached start may_reload seen written takes closed old policy tokens IsIn
      → IsReached start may_reload seen written_then takes_then closed_then new policy_then tokens_then IsInThen
  reached_pause false is keeps knows stays serves reached = let same = keeps is in reached_still same.0 same.1 stays serves reached
  reached_pause true is keeps knows stays serves reached = reached_reload is knows stays serves reached

  -- the hub heard an event
  pub reached_event : (event : HubEvent) → policy_then ≡ policy → tokens_then ≡ tokens
      → ((entries : List Entry) (state : HubState) → Knows entries tokens → IsIn state
      → (result : Result (List HubOutput) HubFault) × (next : HubState) × IsInThen next × Hears policy start.base entries event state result next
      × ((due : ℕ → List ℕ) (shut : ℕ → Bool) → IsServed start.state state seen written takes closed old due shut
      → IsServed start.state next (seen ++ event ∷ []) written_then takes_then closed_then new (λ m. due m ++ due_for m result) (λ m. shut m || shut_for m result)))
      → IsReached start may_reload seen written takes closed old policy tokens IsIn
      → IsReached start may_reload (seen ++ event ∷ []) written_then takes_then closed_then new policy_then tokens_then IsInThen
  reached_event event same_policy same_tokens hears_it reached =
      let step = hears_it reached.entries reached.state reached.knows reached.is_in in
      record {
        occurrences = reached.occurrences ++ hears event ∷ [];
        results = reached.results ++ step.0 ∷ [];
        entries = reached.entries;
        state = step.1;
        heard_is = heard_more reached.occurrences event ∙ ap (λ (events : List HubEvent). events ++ event ∷ []) reached.heard_is;
        none_reloaded = λ never. reloaded_still reached.occurrences event ∙ reached.none_reloaded never;
        knows = subst (λ (t : Tokens). Knows reached.entries t) (sym same_tokens) reached.knows;
        is_in = step.2;
        runs = subst (λ (p : List Rule). RunsThrough start.base start.policy start.entries start.state (reached.occurrences ++ hears event ∷ []) (reached.results ++ step.0 ∷ []) p reached.entries step.1)
            (sym same_policy)
            (through_hears start.base policy reached.entries event step.0 step.1 start.policy start.entries start.state reached.state reached.occurrences reached.results reached.runs step.3);
        served = served_more start.state step.1 (seen ++ event ∷ []) written_then takes_then closed_then new reached.results step.0
            (step.4 (λ m. due m reached.results) (λ m. is_shut m reached.results) reached.served);
      }

  -- the hub heard several events, one after another
  pub reached_run : (events : List HubEvent) (more : List (Result (List HubOutput) HubFault)) → policy_then ≡ policy → tokens_then ≡ tokens
      → ((entries : List Entry) (state : HubState) → Knows entries tokens → IsIn state
      → (next : HubState) × IsInThen next × Runs policy start.base entries state events more next
      × ((results : List (Result (List HubOutput) HubFault)) → IsServed start.state state seen written takes closed old (λ m. due m results) (λ m. is_shut m results)
      → IsServed start.state next (seen ++ events) written_then takes_then closed_then new (λ m. due m (results ++ more)) (λ m. is_shut m (results ++ more))))
      → IsReached start may_reload seen written takes closed old policy tokens IsIn
      → IsReached start may_reload (seen ++ events) written_then takes_then closed_then new policy_then tokens_then IsInThen
  reached_run events more same_policy same_tokens hears_them reached =
      let step = hears_them reached.entries reached.state reached.knows reached.is_in in
      record {
        occurrences = reached.occurrences ++ map hears events;
        results = reached.results ++ more;
        entries = reached.entries;
        state = step.0;
        heard_is = heard_all reached.occurrences events ∙ ap (λ (before : List HubEvent). before ++ events) reached.heard_is;
        none_reloaded = λ never. reloaded_all reached.occurrences events ∙ reached.none_reloaded never;
        knows = subst (λ (t : Tokens). Knows reached.entries t) (sym same_tokens) reached.knows;
        is_in = step.1;
        runs = subst (λ (p : List Rule). RunsThrough start.base start.policy start.entries start.state (reached.occurrences ++ map hears events) (reached.results ++ more) p reached.entries step.0)
            (sym same_policy)
            (through_runs start.base policy reached.entries events more step.0 start.policy start.entries start.state reached.state reached.occurrences reached.results reached.runs step.2);
        served = step.3 reached.results reached.served;
      }

module _ (start : Start) (may_reload : Bool) (seen : List HubEvent) (written : ℕ → List ℕ) (takes closed : ℕ → Bool) (waiting : Waiting) (policy : List Rule) (tokens : Tokens)
    (IsIn : HubState → Type 0) where
  -- the same is told of the connections
  pub reached_same : (written_then : ℕ → List ℕ) (takes_then closed_then : ℕ → Bool) → ((m : ℕ) → written_then m ≡ written m) → ((m : ℕ) → takes_then m ≡ true → takes m ≡ true)
      → ((m : ℕ) → closed_then m ≡ closed m) → IsReached start may_reload seen written takes closed waiting policy tokens IsIn
      → IsReached start may_reload seen written_then takes_then closed_then waiting policy tokens IsIn
  reached_same written_then takes_then closed_then same same_takes same_closed reached =
      reached_still start may_reload seen written written_then takes takes_then closed closed_then waiting waiting policy policy tokens tokens IsIn IsIn refl refl (λ state is. is)
      (λ state results. served_same start.state state seen written written_then takes takes_then closed closed_then waiting (λ m. due m results) (λ m. is_shut m results) same same_takes same_closed)
      reached

  -- what a server did
  pub reached_served : IsReached start may_reload seen written takes closed waiting policy tokens IsIn
      → (occurrences : List Occurrence) × (results : List (Result (List HubOutput) HubFault)) × (entries_last : List Entry) × (next : HubState)
      × (heard occurrences ≡ seen) × (may_reload ≡ false → reloaded occurrences ≡ []) × Knows entries_last tokens × IsIn next
      × RunsThrough start.base start.policy start.entries start.state occurrences results policy entries_last next
      × AreServed start.state next seen results written takes closed
  reached_served reached =
      let each = served_each start.state reached.state seen written takes closed waiting (λ m. due m reached.results) (λ m. is_shut m reached.results) reached.served in (
        reached.occurrences,
        reached.results,
        reached.entries,
        reached.state,
        reached.heard_is,
        reached.none_reloaded,
        reached.knows,
        reached.is_in,
        reached.runs,
        record { fronts = each.0; wholes = each.1; closed_after = each.2; closed_at_once = each.3 },
      )
