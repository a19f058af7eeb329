use Rattle.sqlite.specs.Held.{state}
use Rattle.sqlite.specs.Values.{bound}
use Rattle.scim_store_tables.proofs.StepLemmas.{if_then, on_ok, on_err}
use Rattle.scim_store_tables.proofs.AnswerLemmas.{asks_spare, shown_open, failed_rests, answered}
use Rattle.scim_store_tables.proofs.asking.ask.Goals as goal

pub returns : goal.returns
returns g c =
    let sql = c.args.sql.now in
    let params = bound c.args.params.now in
    let old = state g.S.Store c.args.conn.now in
    let new = state g.S.Store c.query_all.new.self in
    record {
      mode = c.query_all.ensures.mode;
      clean = c.query_all.ensures.survives.clean;
      spares = λ v q is. asks_spare sql params old new q is c.query_all.ensures.survives;
      was_open = λ clean. on_ok c.query_all.result _ _ (λ rows shown. shown_open sql params old new rows.items shown) (c.query_all.ensures.ok clean);
      read = λ clean. if_then c.query_all.result _ _ (λ rows shown v q is has. answered sql q params old new rows.items is has shown) (c.query_all.ensures.ok clean);
      rests = λ clean. on_err c.query_all.result _ _ (λ e fails. failed_rests sql params old new e fails) (c.query_all.ensures.err clean);
    }
