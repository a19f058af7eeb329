use Rattle.std.proofs.Common.{◌≡◌, ◌∙◌, sym, ap, subst, List, map, length}
use Rattle.std.proofs.lemmas.List.{length-map}
use Rattle.scim_hub.specs.Events.{HubEvent, Runs}
use Rattle.scim_hub.specs.HubStates.{event_of, owned_event_of, done}
use Rattle.scim_command.proofs.OutputLemmas.{runs_lengths, are_results}
use Rattle.scim_command.proofs.replays.answered.Goals as goal

pub returns : goal.returns
returns c entries state knows is =
    let policy = c.args.hub.now.service.policy in
    let base = c.args.hub.now.service.base in
    let results = c.in_ok-results.results.items in
    let ran = c.in_ok-results.ensures.ran entries state knows is tt in
    let events = map owned_event_of c.args.owned.now in
    let seen : map event_of c.as_slice.result.now ≡ events = ap (map event_of) c.as_slice.ensures.value ∙ c.in_ok-events.ensures in
    let told : map event_of c.as_slice-2.result.now ≡ events = ap (map event_of) c.as_slice-2.ensures.value ∙ c.in_ok-events.ensures in
    let answers : map done c.as_slice-3.result.now ≡ map done results = ap (map done) c.as_slice-3.ensures.value in
    let runs = subst (λ (xs : List HubEvent). Runs policy base entries state xs (map done results) ran.0) seen ran.2 in
    let same : length c.as_slice-2.result.now ≡ length c.as_slice-3.result.now =
    sym (length-map c.as_slice-2.result.now event_of) ∙ ap length told ∙ runs_lengths policy base entries ran.0 state events (map done results) runs
    ∙ ap length (sym answers) ∙ length-map c.as_slice-3.result.now done in
    are_results policy base entries ran.0 state events (map done results) c.results_text.result runs (rw (told, answers) at (c.results_text.ensures same))
