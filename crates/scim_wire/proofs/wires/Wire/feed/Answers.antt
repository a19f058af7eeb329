use Rattle.std.proofs.Common.{append-nil, append_assoc, arith, refl, ◌∙◌, ◌+◌}
use Rattle.std.proofs.lemmas.List.{take_all, take_more}
use Rattle.scim_wire.proofs.WireLemmas.{stands_push, stands_taken}
use Rattle.scim_wire.proofs.wires.Wire.feed.Goals as goal

pub loop-state-init : goal.loop-state-init
loop-state-init c = record {
  within = omega arith;
  stands = λ stream items stands. rw (c.replace-state.ensures.value, c.new-items.ensures.items, append-nil stream, append-nil items) stands;
  shut = λ shut. (c.new-items.ensures.items, c.replace-state.ensures.value ∙ shut);
}

pub loop-state-preserved : goal.loop-state-preserved
loop-state-preserved c =
    let at = c.loop-state.taken + c.in_ok-taken.field-0 in
    let there = c.in-Some.ensures.lookup in
    record {
      within = omega (arith, there);
      stands = λ stream items stands.
          let run = stands_taken (record { state = c.loop-state.state }) (record { state = c.take_run.new.self }) stream c.args.piece.now
          c.loop-state.taken c.in_ok-taken.field-0 _ (c.loop-state.invariant.stands stream items stands) c.in_ok-taken.ensures.stands in
          let step = stands_push (record { state = c.take_run.new.self }) (record { state = c.in_ok-step.step.state }) c.in_ok-step.step.item _ _ _ run c.in_ok-step.ensures.steps in
          rw (take_more c.args.piece.now at c.in-Some.byte.now there.3.0, ← there.1, c.in_ok-add.ensures, ← append_assoc stream, ← append_assoc items) step;
      shut = λ shut.
          let before = c.loop-state.invariant.shut shut in
          let after = c.in_ok-step.ensures.shut (c.in_ok-taken.ensures.shut before.1) in
          (rw (c.in_ok-add.ensures, after.1, before.0) refl, after.0);
    }

pub returns-clause-items : goal.returns-clause-items
returns-clause-items c stream items stands =
    rw (take_all (c.loop-state.taken + c.in_ok-taken.field-0) c.args.piece.now (omega (arith, c.in_default.ensures.lookup))) at
    (stands_taken (record { state = c.loop-state.state }) (record { state = c.take_run.new.self }) stream c.args.piece.now
    c.loop-state.taken c.in_ok-taken.field-0 _ (c.loop-state.invariant.stands stream items stands) c.in_ok-taken.ensures.stands)
