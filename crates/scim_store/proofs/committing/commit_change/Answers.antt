use Rattle.std.proofs.Common.{◌+◌, arith}
use Rattle.sqlite.specs.Held.{state}
use Rattle.scim_shelf.specs.Stores.{after}
use Rattle.scim_store.specs.Committing.{IsDue}
use Rattle.scim_store.proofs.CommitLemmas.{look_survives, then_survives}
use Rattle.scim_store.proofs.committing.commit_change.Goals as goal

pub returns-in_err-old-clause-crash : goal.returns-in_err-old-clause-crash
returns-in_err-old-clause-crash g c =
    look_survives c.args.base.now (after c.args.change.now c.args.row.now) (IsDue c.args.change.now (c.args.rows + 1)) (state g.S.Store c.args.conn.now) (state g.S.Store c.find_old_of.new.conn) c.find_old_of.ensures.spares

pub returns-clause-crash : goal.returns-clause-crash
returns-clause-crash g c =
    then_survives c.args.base.now c.args.change.now c.args.row.now c.in_ok-old.old (c.args.rows + 1) (state g.S.Store c.args.conn.now) (state g.S.Store c.find_old_of.new.conn) (state g.S.Store c.commit_over.new.conn)
    (λ clean. c.in_ok-old.ensures.found (omega (arith, clean, c.commit_over.ensures.crash.clean))) c.find_old_of.ensures.spares (rw (c.as_ref.ensures.value) at c.commit_over.ensures.crash)
