use Rattle.std.proofs.lemmas.Result.{on_ok_weaker}
use Rattle.sqlite.specs.Held.{state}
use Rattle.scim_shelf.specs.declared.commits.Commit.{Commit}
use Rattle.scim_store.proofs.SeveralLemmas.{one_due, one_survives}
use Rattle.scim_store.proofs.committing.commit_over.Goals as goal

pub returns-clause-made : goal.returns-clause-made
returns-clause-made g c clean =
    let one : Commit = record { old = c.args.old; change = c.args.change; row = c.args.row } in
    on_ok_weaker c.commit_all.result (λ made store has due. made store has (one_due c.args.base.now one c.args.rows store due)) (rw c.from_ref.ensures.value at (c.commit_all.ensures.made clean))

pub returns-clause-crash : goal.returns-clause-crash
returns-clause-crash g c =
    let one : Commit = record { old = c.args.old; change = c.args.change; row = c.args.row } in
    one_survives c.args.base.now one c.args.rows (state g.S.Store c.args.conn.now) (state g.S.Store c.commit_all.new.conn) (rw c.from_ref.ensures.value at c.commit_all.ensures.crash)

pub returns-clause-durable : goal.returns-clause-durable
returns-clause-durable g c clean =
    let one : Commit = record { old = c.args.old; change = c.args.change; row = c.args.row } in
    on_ok_weaker c.commit_all.result (λ lasts store has due. lasts store has (one_due c.args.base.now one c.args.rows store due)) (rw c.from_ref.ensures.value at (c.commit_all.ensures.durable clean))
