-- Lines for results.
use Rattle.std.proofs.Common.{◌≡◌, ◌∙◌, sym, ap, ℕ, ◌+◌, ◌<◌, List, [], ◌∷◌, ◌++◌, length, get_or, take, map, append_assoc, arith}
use Rattle.std.specs.Prelude.{Result, Ok, Err, IfOk, String, string_bytes}
use Rattle.std.specs.Global.{Vec}
use Rattle.std.proofs.lemmas.List.{append-nil, take_more, map-append, length-map, length-take-le}
use Rattle.std.specs.declared.alloc.Global.{Global}
use Rattle.scim_text.specs.declared.memory.NoMemory.{NoMemory}
use Rattle.scim_policy.specs.Rules.{Rule}
use Rattle.scim_token.specs.TokenFile.{Entry}
use Rattle.scim_hub.specs.declared.events.Event.{Event}
use Rattle.scim_hub.specs.declared.events.Output.{Output}
use Rattle.scim_hub.specs.HubStates.{event_of, done}
use Rattle.scim_hub.specs.declared.events.HubFault.{HubFault}
use Rattle.scim_hub.specs.Events.{HubOutput, HubEvent, HubState, Runs}
use Rattle.scim_command.specs.Outputs.{result_lines, results_text}
use Rattle.scim_command.specs.Replays.{AreResultsOf}

-- three texts after another, put together from the last on or from the first on
pub three_after : (a b c d : List ℕ) → a ++ (b ++ (c ++ d)) ≡ ((a ++ b) ++ c) ++ d
three_after a b c d = sym (append_assoc (a ++ b) c d ∙ append_assoc a b (c ++ d))

-- one more event with its result
pub results_more : (events : List HubEvent) (results : List (Result (List HubOutput) HubFault)) (event : HubEvent) (result : Result (List HubOutput) HubFault) → length events ≡ length results
    → results_text (events ++ event ∷ []) (results ++ result ∷ []) ≡ results_text events results ++ result_lines event.connection result
results_more [] [] event result same = append-nil (result_lines event.connection result)
results_more [] (r ∷ results) event result same = absurd (omega (arith, same))
results_more (e ∷ events) [] event result same = absurd (omega (arith, same))
results_more (e ∷ events) (r ∷ results) event result same =
    ap (λ (text : List ℕ). result_lines e.connection r ++ text) (results_more events results event result (omega (arith, same)))
    ∙ sym (append_assoc (result_lines e.connection r) (results_text events results) (result_lines event.connection result))

-- the text up to an event, and the lines for that one
pub text_more : (events : List Event) (results : List (Result (Vec Output) HubFault)) (i : ℕ) (d : Event) (e : Result (Vec Output) HubFault) → length events ≡ length results → i < length events
    → results_text (map event_of (take (i + 1) events)) (map done (take (i + 1) results))
    ≡ results_text (map event_of (take i events)) (map done (take i results)) ++ result_lines (get_or events i d).connection (done (get_or results i e))
text_more events results i d e same inside =
    ap (λ (xs : List HubEvent). results_text xs (map done (take (i + 1) results))) (ap (map event_of) (take_more events i d inside) ∙ map-append event_of (take i events) (get_or events i d ∷ []))
    ∙ ap (λ (ys : List (Result (List HubOutput) HubFault)). results_text (map event_of (take i events) ++ event_of (get_or events i d) ∷ []) ys)
    (ap (map done) (take_more results i e (omega (arith, same, inside))) ∙ map-append done (take i results) (get_or results i e ∷ []))
    ∙ results_more (map event_of (take i events)) (map done (take i results)) (event_of (get_or events i d)) (done (get_or results i e))
    (length-map (take i events) event_of ∙ length-take-le i events (omega (arith, inside)) ∙ sym (length-map (take i results) done ∙ length-take-le i results (omega (arith, same, inside))))

module _ (policy : List Rule) (base : List ℕ) (entries : List Entry) (next : HubState) where
  -- each event has one result
  pub runs_lengths : (state : HubState) (events : List HubEvent) (results : List (Result (List HubOutput) HubFault)) → Runs policy base entries state events results next → length events ≡ length results
  runs_lengths state [] results (none, same) = ap length (sym none)
  runs_lengths state (event ∷ events) results (first, mid, rest, split, hears, runs) = omega (arith, runs_lengths mid events rest runs, ap length split)

  -- the text of results by which events are answered
  pub are_results : (state : HubState) (events : List HubEvent) (results : List (Result (List HubOutput) HubFault)) (r : Result (String Global) NoMemory) → Runs policy base entries state events results next
      → IfOk r (λ t. string_bytes t ≡ results_text events results) → IfOk r (λ t. AreResultsOf policy base entries state events (string_bytes t))
  are_results state events results (Ok t) runs is = record { results = results; next = next; runs = runs; text_is = is }
  are_results state events results (Err e) runs is = tt
