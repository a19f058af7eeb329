use Rattle.std.proofs.Common.{ap}
use Rattle.sqlite.specs.Held.{state}
use Rattle.scim_store_tables.proofs.StepLemmas.{keeps_either}
use Rattle.scim_store_tables.proofs.WriteLemmas.{updates_resource_row}
use Rattle.scim_store_tables.proofs.writes.update_resource.Goals as goal

pub returns : goal.returns
returns g c =
    record {
      does = record {
        same_reference = c.execute.ensures.same_reference;
        went = λ clean inside. updates_resource_row (state g.S.Store c.args.tx.now.conn.now) (state g.S.Store c.execute.new.self.conn.now) c.execute.result c.args.id.now c.args.document.now c.args.kind (rw (c.params-to_sql.ensures, c.params-to_sql-2.ensures, c.params-to_sql-3.ensures) at (c.execute.ensures.runs clean inside));
        kept = λ clean. keeps_either (state g.S.Store c.args.tx.now.conn.now) (state g.S.Store c.execute.new.self.conn.now) _ _ c.execute.result (λ outside. ap (state g.S.Store) (c.execute.ensures.ended outside).1) (λ inside. c.execute.ensures.runs clean inside);
        survives = c.execute.ensures.survives;
      };
    }
