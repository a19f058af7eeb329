use Rattle.std.proofs.Common.{◌≡◌, ◌∙◌, sym, ap, subst, ◌+◌, [], ◌∷◌, ◌++◌, map, take, drop}
use Rattle.std.specs.List.{flat_map}
use Rattle.std.proofs.lemmas.List.{take_more}
use Rattle.std.proofs.lemmas.Result.{err_from_is_err_and}
use Rattle.scim_wire.specs.Streams.{AppendsFront}
use Rattle.scim_hub.specs.declared.events.Output.{Output}
use Rattle.scim_hub.specs.HubStates.{output_of}
use Rattle.scim_hub.specs.Streams.{text_in}
use Rattle.scim_hub.proofs.StreamLemmas.{front_after, front_longer, texts_around}
use Rattle.scim_hub.proofs.writing.write_outputs.Goals as goal

pub returns-in_err-write_output : goal.returns-in_err-write_output
returns-in_err-write_output g c =
    let i = c.loop-output.output-index in
    let outputs = c.args.outputs.now in
    let output = c.output-item.result in
    let more : take (i + 1) outputs ≡ take i outputs ++ output ∷ [] = take_more outputs i output c.loop-output-test.true ∙ ap (λ (x : Output). take i outputs ++ x ∷ []) (sym c.output-item.is) in
    let p = err_from_is_err_and c.from_residual.result c.from_residual.ensures.1 in
    let old = g.W.Write.contents c.args.writer.now in
    let new = g.W.Write.contents c.write_output.new.writer in
    rw p.1 (
      p.2 ∙ c.in_err-write_output.ensures.0,
      subst (AppendsFront old new) (sym (texts_around outputs i output more))
          (front_longer old new _ (flat_map text_in (map output_of (drop (i + 1) outputs)))
          (front_after old (g.W.Write.contents c.loop-output.writer) new (flat_map text_in (map output_of (take i outputs))) (text_in (output_of output)) c.loop-output.invariant c.in_err-write_output.ensures.1)),
    )
