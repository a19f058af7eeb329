use Rattle.std.proofs.Common.{◌∙◌, refl, subst, List, map}
use Rattle.std.specs.List.{flat_map}
use Rattle.std.specs.Io.KnownBytes.{Appends}
use Rattle.std.proofs.lemmas.Result.{err_from_is_err_and}
use Rattle.scim_wire.specs.Streams.{AppendsFront}
use Rattle.scim_hub.specs.declared.events.Output.{Output}
use Rattle.scim_hub.specs.Events.{HubEvent, sending}
use Rattle.scim_hub.specs.HubStates.{output_of}
use Rattle.scim_hub.specs.Streams.{text_in}
use Rattle.scim_hub.proofs.StreamLemmas.{not_served, piece_denied, piece_unwritten, piece_served}
use Rattle.scim_hub.proofs.streams.serve_piece.Goals as goal

pub returns-in_err-stamp-clause-served : goal.returns-in_err-stamp-clause-served
returns-in_err-stamp-clause-served g c entries state knows is honest some =
    let p = err_from_is_err_and c.from_residual.result c.from_residual.ensures.1 in
    (state, is, rw (p.1, p.2) (not_served _ _ entries _ state c.args.piece.now _ _ _ some c.in_err-stamp.ensures.none))

pub returns-in_err-outputs-clause-served : goal.returns-in_err-outputs-clause-served
returns-in_err-outputs-clause-served g c entries state knows is honest some =
    let event : HubEvent = record { connection = c.args.connection; stamp = c.in_ok-stamp.stamp; kind = sending c.args.piece.now } in
    let step = c.in_err-outputs.ensures.heard entries state knows is honest in
    let p = err_from_is_err_and c.from_residual-in_err-outputs.result c.from_residual-in_err-outputs.ensures.1 in (
      step.0,
      step.1,
      rw (p.1, p.2) (piece_denied c.args.hub.now.service.policy c.args.hub.now.service.base entries c.args.connection state step.0 event c.in_err-outputs.field-0.0 c.args.piece.now _ _ _
          step.2 refl some refl c.in_ok-stamp.ensures.given),
    )

pub returns-in_err-write_outputs-clause-served : goal.returns-in_err-write_outputs-clause-served
returns-in_err-write_outputs-clause-served g c entries state knows is honest some =
    let event : HubEvent = record { connection = c.args.connection; stamp = c.in_ok-stamp.stamp; kind = sending c.args.piece.now } in
    let outputs = c.in_ok-outputs.outputs.items in
    let step = c.in_ok-outputs.ensures.heard entries state knows is honest in
    let p = err_from_is_err_and c.from_residual-in_err-write_outputs.result c.from_residual-in_err-write_outputs.ensures.1 in
    let wrote = subst (λ (xs : List Output). AppendsFront (g.W.Write.contents c.args.writer.now) (g.W.Write.contents c.write_outputs.new.writer) (flat_map text_in (map output_of xs)))
    c.as_slice.ensures.value c.in_err-write_outputs.ensures.1 in (
      step.0,
      step.1,
      rw (p.1, p.2 ∙ c.in_err-write_outputs.ensures.0) (piece_unwritten c.args.hub.now.service.policy c.args.hub.now.service.base entries c.args.connection state step.0 event (map output_of outputs) c.args.piece.now _ _ _ _
          step.2 refl some refl c.in_ok-stamp.ensures.given wrote),
    )

pub returns-clause-served : goal.returns-clause-served
returns-clause-served g c entries state knows is honest some =
    let event : HubEvent = record { connection = c.args.connection; stamp = c.in_ok-stamp.stamp; kind = sending c.args.piece.now } in
    let outputs = c.in_ok-outputs.outputs.items in
    let step = c.in_ok-outputs.ensures.heard entries state knows is honest in
    let wrote = subst (λ (xs : List Output). Appends (g.W.Write.contents c.args.writer.now) (g.W.Write.contents c.write_outputs.new.writer) (flat_map text_in (map output_of xs)))
    c.as_slice.ensures.value c.in_ok-write_outputs.ensures in (
      step.0,
      step.1,
      piece_served c.args.hub.now.service.policy c.args.hub.now.service.base entries c.args.connection state step.0 event outputs c.args.piece.now _ _ _ _
          (record { replies = c.reply_count.result; shut = c.is_any_shutting.result }) step.2 refl some refl c.in_ok-stamp.ensures.given wrote
          (rw (← c.as_slice-2.ensures.value) c.reply_count.ensures) (rw (← c.as_slice-3.ensures.value) c.is_any_shutting.ensures),
    )
