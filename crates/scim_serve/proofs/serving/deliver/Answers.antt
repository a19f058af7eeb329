use Rattle.std.proofs.Common.{◌∙◌, sym, [], ◌∷◌, ◌++◌}
use Rattle.std.specs.Prelude.{◌||◌}
use Rattle.scim_hub.specs.HubStates.{owned_event_of, result_of}
use Rattle.scim_serve.specs.Serving.{due_for, shut_for}
use Rattle.scim_serve.proofs.EventLemmas.{hears_only}
use Rattle.scim_serve.proofs.ClosingLemmas.{closing_on}
use Rattle.scim_serve.proofs.LevelLemmas.{level_on}
use Rattle.scim_serve.proofs.ServedLemmas.{served_same}
use Rattle.scim_serve.proofs.WholeLemmas.{whole_on}
use Rattle.scim_serve.proofs.serving.deliver.Goals as goal

pub returns-clause-served : goal.returns-clause-served
returns-clause-served g c = λ known policy base entries first state next seen due shut hears served.
    let written = g.P.Peers.written in
    let takes = g.P.Peers.takes_all in
    let closed = g.P.Peers.is_closed in
    let event = owned_event_of c.args.event.now in
    let result = result_of c.args.answer.now in
    let only = hears_only policy base entries event state result next hears in
    let noted = c.report.ensures known in
    served_same first next (seen ++ event ∷ []) (written c.settle.new.peers) (written c.report.new.peers) (takes c.settle.new.peers) (takes c.report.new.peers)
    (closed c.settle.new.peers) (closed c.report.new.peers) c.settle.new.waiting (λ m. due m ++ due_for m result) (λ m. shut m || shut_for m result)
    noted.written_same (λ m all. sym (noted.takes_same m) ∙ all) noted.closed_same (record {
      level = level_on (written c.prepare.new.peers) (written c.settle.new.peers) c.prepare.new.waiting c.settle.new.waiting due c.args.event.now.connection result
          (c.settle.ensures.settled known) c.settle.ensures.next c.prepare.ensures.noted only (c.prepare.ensures.level known due served.level);
      closing = closing_on c.prepare.new.waiting c.settle.new.waiting shut c.args.event.now.connection result
          c.settle.ensures.marks c.settle.ensures.unfinished c.settle.ensures.next c.prepare.ensures.noted only (c.prepare.ensures.closing shut served.closing);
      whole = whole_on policy base entries first state next seen event result
          (written c.args.peers.now) (written c.prepare.new.peers) (written c.settle.new.peers) (takes c.args.peers.now) (takes c.prepare.new.peers) (takes c.settle.new.peers)
          (closed c.args.peers.now) (closed c.prepare.new.peers) (closed c.settle.new.peers) c.args.waiting.now c.prepare.new.waiting c.settle.new.waiting due shut
          (c.prepare.ensures.taken known) (c.prepare.ensures.stays known) (λ m left. (c.prepare.ensures.gone m left, c.prepare.ensures.unclosed known m left))
          (c.prepare.ensures.entered known) (c.prepare.ensures.written known) (c.settle.ensures.taken known) (c.settle.ensures.stays known) (c.settle.ensures.settled known) (c.settle.ensures.lost known) hears
          served.level served.closing served.whole;
    })
