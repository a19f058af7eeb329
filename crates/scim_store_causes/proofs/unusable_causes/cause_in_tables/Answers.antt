use Rattle.std.proofs.Common.{subst}
use Rattle.sqlite.specs.Held.{state}
use Rattle.scim_store_tables.specs.Whole.{IsReading}
use Rattle.scim_store_causes.proofs.CauseLemmas.{rows_survive, rows_explained, rows_rest}
use Rattle.scim_store_causes.proofs.unusable_causes.cause_in_tables.Goals as goal

pub returns-in-Tables-clause-survives : goal.returns-in-Tables-clause-survives
returns-in-Tables-clause-survives g c =
    let old = state g.S.Store c.args.conn.now in
    let mid = state g.S.Store c.read_tables.new.conn in
    rows_survive old mid (state g.S.Store c.cause_in_rows.new.conn) c.in-Tables.version c.in-Tables.rows (λ clean. c.in_ok-read_tables.ensures.opened clean c.in-Tables.version c.in-Tables.rows c.in-Tables.is)
    (λ clean. subst (IsReading old mid) c.in-Tables.is (c.in_ok-read_tables.ensures.read clean)) c.read_tables.ensures.survives c.cause_in_rows.ensures.spares

pub returns-in-Tables-clause-told : goal.returns-in-Tables-clause-told
returns-in-Tables-clause-told g c clean =
    let old = state g.S.Store c.args.conn.now in
    let mid = state g.S.Store c.read_tables.new.conn in
    rows_explained old mid (state g.S.Store c.cause_in_rows.new.conn) c.in-Tables.version c.in-Tables.rows c.cause_in_rows.result (λ clean. c.in_ok-read_tables.ensures.opened clean c.in-Tables.version c.in-Tables.rows c.in-Tables.is)
    (λ clean. subst (IsReading old mid) c.in-Tables.is (c.in_ok-read_tables.ensures.read clean)) c.cause_in_rows.ensures clean

pub returns-in-Tables-clause-rests : goal.returns-in-Tables-clause-rests
returns-in-Tables-clause-rests g c clean =
    let old = state g.S.Store c.args.conn.now in
    let mid = state g.S.Store c.read_tables.new.conn in
    rows_rest old mid (state g.S.Store c.cause_in_rows.new.conn) c.in-Tables.version c.in-Tables.rows c.cause_in_rows.result (λ clean. c.in_ok-read_tables.ensures.opened clean c.in-Tables.version c.in-Tables.rows c.in-Tables.is)
    (λ clean. subst (IsReading old mid) c.in-Tables.is (c.in_ok-read_tables.ensures.read clean)) c.cause_in_rows.ensures clean
