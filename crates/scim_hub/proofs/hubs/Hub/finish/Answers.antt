use Rattle.std.proofs.Common.{refl}
use Rattle.scim_hub.proofs.FinishLemmas.{finished_shut, finished_open}
use Rattle.scim_hub.proofs.hubs.Hub.finish.Goals as goal
use Rattle.scim_hub.proofs.hubs.Hub.finish.Goals.{then-closed, else-closed}

pub returns-after-closed-clause-connections : goal.returns-after-closed-clause-connections
returns-after-closed-clause-connections g c =
    elim c.if-closed.branch [
      | then-closed w ↦ rw w.self-is (finished_shut c.args.replies c.in-Ok.field-0 c.args.connection c.args.self.now.connections w.shut.new.self c.in-Ok.is (let e = c.in-Ok.closed-is in let t = w.if-closed.true in cc) w.shut.ensures)
      | else-closed w ↦ rw w.self-is (finished_open c.args.replies c.in-Ok.field-0 c.args.connection c.args.self.now.connections c.args.self.now.connections c.in-Ok.is (let e = c.in-Ok.closed-is in let t = w.if-closed.false in cc) refl)
    ]
