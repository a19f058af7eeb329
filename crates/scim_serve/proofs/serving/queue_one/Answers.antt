use Rattle.std.proofs.Common.{rules, ◌≡◌, sym, subst, ◌==◌, [], if◌then◌else◌}
use Rattle.std.specs.Prelude.{Option}
use Rattle.std.proofs.Math.Bool.{or-false}
use Rattle.std.specs.Option.{option_map}
use Rattle.scim_serve.specs.code.Rests.{Rest, with_more}
use Rattle.scim_serve.specs.code.Waiting.{waiting_for, Becomes}
use Rattle.scim_serve.specs.code.Levels.{Fits}
use Rattle.scim_serve.specs.code.Closings.{IsMarked}
use Rattle.scim_serve.specs.code.Wholes.{AllTaken}
use Rattle.scim_serve.proofs.ClosingLemmas.{text_none, text_unfinished, text_marked}
use Rattle.scim_serve.proofs.FitLemmas.{text_lost, text_added}
use Rattle.scim_serve.specs.Serving.{text_to}
use Rattle.scim_hub.specs.HubStates.{output_of}
use Rattle.scim_hub.specs.declared.events.Output.{Output}
use Rattle.scim_serve.proofs.serving.queue_one.Goals as goal

pub returns-then-is_err-clause-queued : goal.returns-then-is_err-clause-queued
returns-then-is_err-clause-queued g c = λ known m due fits.
    let n = c.in-Write.connection in
    let stays : waiting_for c.add.new.self m ≡ waiting_for c.args.waiting.now m = search rules in
    let kept = c.close.ensures.kept known m due (subst (λ (o : Option Rest). Fits o (g.P.Peers.written c.args.peers.now m) due) (sym stays) fits) in
    rw c.in-Write.is (text_lost n m c.close.new.waiting (g.P.Peers.written c.close.new.peers m) due _ c.close.ensures.gone kept)

pub returns-else-is_err-clause-queued : goal.returns-else-is_err-clause-queued
returns-else-is_err-clause-queued g c = λ known m due fits.
    let n = c.in-Write.connection in
    rw (c.in-Write.is, ← c.as_bytes.ensures.value) (text_added n m c.args.waiting.now c.add.new.self (g.P.Peers.written c.args.peers.now m) due c.as_bytes.result.now (search rules) fits)

pub returns-else-is_err-clause-taken : goal.returns-else-is_err-clause-taken
returns-else-is_err-clause-taken g c = λ known m none taken.
    let n = c.in-Write.connection in
    let text = c.as_bytes.result.now in
    let becomes : Becomes n (option_map (with_more text) (waiting_for c.args.waiting.now n)) c.args.waiting.now c.add.new.self = search rules in
    let none_here : (if n == m then text else []) ≡ [] = rw c.as_bytes.ensures.value (subst (λ (o : Output). text_to m (output_of o) ≡ []) c.in-Write.is none) in
    subst (λ (o : Option Rest). AllTaken o (g.P.Peers.takes_all c.args.peers.now m)) (sym (text_none n m c.args.waiting.now c.add.new.self text becomes none_here)) taken

pub returns-else-is_err-clause-marks : goal.returns-else-is_err-clause-marks
returns-else-is_err-clause-marks g c = λ m shut marked.
    let marked_then = text_marked c.in-Write.connection m c.args.waiting.now c.add.new.self c.as_bytes.result.now shut (search rules) marked in
    rw c.in-Write.is (subst (IsMarked (waiting_for c.add.new.self m)) (sym (or-false shut)) marked_then)

pub returns-else-is_err-clause-unfinished : goal.returns-else-is_err-clause-unfinished
returns-else-is_err-clause-unfinished g c = λ m none before.
    text_unfinished c.in-Write.connection m c.args.waiting.now c.add.new.self c.as_bytes.result.now (search rules) before

pub returns-in-Shut-clause-marks : goal.returns-in-Shut-clause-marks
returns-in-Shut-clause-marks g c = search rules

pub returns-in-Shut-clause-pending : goal.returns-in-Shut-clause-pending
returns-in-Shut-clause-pending g c = search rules
