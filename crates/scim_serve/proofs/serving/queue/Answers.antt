use Rattle.std.proofs.Common.{arith, rules, ◌≡◌, ◌∙◌, sym, ap, subst, ◌+◌, Bool, List, ℕ, [], ◌∷◌, ◌++◌, take, map, append_assoc}
use Rattle.std.specs.List.{flat_map, list_any}
use Rattle.std.specs.Prelude.{◌||◌}
use Rattle.std.proofs.Math.Bool.{or_assoc}
use Rattle.std.proofs.lemmas.Bool.{or_parts}
use Rattle.std.proofs.lemmas.List.{take_more, take_all}
use Rattle.scim_hub.specs.declared.events.Output.{Output}
use Rattle.scim_hub.specs.HubStates.{output_of}
use Rattle.scim_serve.specs.Serving.{text_to, shuts}
use Rattle.scim_serve.specs.code.Waiting.{waiting_for}
use Rattle.scim_serve.specs.code.Levels.{Fits}
use Rattle.scim_serve.specs.code.Closings.{IsMarked}
use Rattle.scim_serve.proofs.FitLemmas.{texts_more, none_of_both}
use Rattle.scim_serve.proofs.ClosingLemmas.{shuts_more}
use Rattle.scim_serve.proofs.serving.queue.Goals as goal

pub loop-output-preserved : goal.loop-output-preserved
loop-output-preserved g c =
    let inv = c.loop-output.invariant in
    let i = c.loop-output.output-index in
    let outputs = c.args.outputs.now in
    let output = c.output-item.result in
    let more : take (i + 1) outputs ≡ take i outputs ++ output ∷ [] = take_more outputs i output c.loop-output-test.true ∙ ap (λ (x : Output). take i outputs ++ x ∷ []) (sym c.output-item.is) in
    record {
      seen = search rules;
      queued = λ known m due fits.
          let before = flat_map (text_to m) (map output_of (take i outputs)) in
          let now = text_to m (output_of output) in
          subst (λ (t : List ℕ). Fits (waiting_for c.queue_one.new.waiting m) (g.P.Peers.written c.queue_one.new.peers m) t)
          (append_assoc due before now ∙ ap (λ (t : List ℕ). due ++ t) (sym (texts_more m i outputs output more)))
          (c.queue_one.ensures.queued known m (due ++ before) (inv.queued known m due fits));
      taken = λ known m none all.
          let both = none_of_both (flat_map (text_to m) (map output_of (take i outputs))) (text_to m (output_of output)) (sym (texts_more m i outputs output more) ∙ none) in
          c.queue_one.ensures.taken known m both.1 (inv.taken known m both.0 all);
      stays = λ known m unclosed.
          let later = c.queue_one.ensures.stays known m unclosed in
          let sooner = inv.stays known m later.0 in
          (sooner.0, λ here. later.1 (sooner.1 here));
      marks = λ m shut marked.
          let before = list_any (shuts m) (map output_of (take i outputs)) in
          subst (IsMarked (waiting_for c.queue_one.new.waiting m))
          (or_assoc shut before (shuts m (output_of output)) ∙ ap (λ (b : Bool). shut || b) (sym (shuts_more m i outputs output more)))
          (c.queue_one.ensures.marks m (shut || before) (inv.marks m shut marked));
      unfinished = λ m none before.
          let both = or_parts (list_any (shuts m) (map output_of (take i outputs))) (shuts m (output_of output)) (sym (shuts_more m i outputs output more) ∙ none) in
          c.queue_one.ensures.unfinished m both.1 (inv.unfinished m both.0 before);
      next = search rules;
    }

pub returns-clause-marks : goal.returns-clause-marks
returns-clause-marks g c = λ m shut marked.
    let outputs = c.args.outputs.now in
    let all = take_all c.loop-output.output-index outputs (omega arith) in
    subst (λ (xs : List Output). IsMarked (waiting_for c.loop-output.waiting m) (shut || list_any (shuts m) (map output_of xs))) all (c.loop-output.invariant.marks m shut marked)
