use Rattle.std.proofs.lemmas.Result.{on_ok_weaker}
use Rattle.sqlite.specs.Held.{state}
use Rattle.scim_store.proofs.SeveralLemmas.{all_made, all_last, none_made}
use Rattle.scim_store.proofs.committing.commit_all.Goals as goal

pub returns-clause-made : goal.returns-clause-made
returns-clause-made g c clean =
    on_ok_weaker c.write_all.result (all_made c.args.base.now c.args.commits.now c.args.rows (state g.S.Store c.args.conn.now) (state g.S.Store c.write_all.new.conn)) (c.write_all.ensures.made clean)

pub returns-clause-undone : goal.returns-clause-undone
returns-clause-undone g c clean = none_made c.args.base.now (state g.S.Store c.args.conn.now) (state g.S.Store c.write_all.new.conn) c.write_all.result (c.write_all.ensures.undone clean)

pub returns-clause-durable : goal.returns-clause-durable
returns-clause-durable g c clean =
    on_ok_weaker c.write_all.result
    (λ became. all_last c.args.base.now c.args.commits.now c.args.rows (state g.S.Store c.args.conn.now) (state g.S.Store c.write_all.new.conn) became (λ trees opened left. g.met.S.Store.settled c.write_all.new.conn.store trees opened left))
    (c.write_all.ensures.made clean)
