use Rattle.std.proofs.Common.{subst}
use Rattle.std.proofs.lemmas.Result.{IfOk-weaker, on_ok_weaker}
use Rattle.sqlite.specs.Held.{state}
use Rattle.scim_store_tables.specs.Whole.{IsReading}
use Rattle.scim_store.proofs.OpenLemmas.{other_examined, program_read, was_read, rows_examined, rows_survive, altered_opened, any_opened, any_copied, none_copied}
use Rattle.scim_store_tables.proofs.Facts.{err_behind, tables_rows}
use Rattle.scim_store.proofs.examining.examine.Goals as goal

pub returns-in-WrongVersion-clause-examined : goal.returns-in-WrongVersion-clause-examined
returns-in-WrongVersion-clause-examined g c = λ clean.
    (let old = state g.S.Store c.args.conn.now in
    let new = state g.S.Store c.read_tables.new.conn in
    other_examined c.args.base.now old new (subst (IsReading old new) c.in-WrongVersion.is (c.in_ok-read_tables.ensures.read clean)))

pub returns-in-Foreign-clause-examined : goal.returns-in-Foreign-clause-examined
returns-in-Foreign-clause-examined g c = λ clean.
    (let old = state g.S.Store c.args.conn.now in
    let new = state g.S.Store c.read_tables.new.conn in
    let reading = subst (IsReading old new) c.in-Foreign.is (c.in_ok-read_tables.ensures.read clean) in
    record { is = program_read c.args.base.now old.now reading.is; untouched = reading.untouched })

pub returns-in-Altered-clause-examined : goal.returns-in-Altered-clause-examined
returns-in-Altered-clause-examined g c = λ clean.
    (let old = state g.S.Store c.args.conn.now in
    let new = state g.S.Store c.read_tables.new.conn in
    let reading = subst (IsReading old new) c.in-Altered.is (c.in_ok-read_tables.ensures.read clean) in
    IfOk-weaker c.examine_altered.result _ _ (λ it told. record { is = told old.now reading.is; untouched = reading.untouched }) c.examine_altered.ensures.examined)

pub returns-in-Tables-clause-survives : goal.returns-in-Tables-clause-survives
returns-in-Tables-clause-survives g c =
    let old = state g.S.Store c.args.conn.now in
    let mid = state g.S.Store c.read_tables.new.conn in
    rows_survive old mid (state g.S.Store c.examine_rows.new.conn) c.in-Tables.version c.in-Tables.rows (λ clean. c.in_ok-read_tables.ensures.opened clean c.in-Tables.version c.in-Tables.rows c.in-Tables.is)
    (λ clean. subst (IsReading old mid) c.in-Tables.is (c.in_ok-read_tables.ensures.read clean)) c.read_tables.ensures.survives c.examine_rows.ensures.spares

pub returns-in-Altered-clause-opened : goal.returns-in-Altered-clause-opened
returns-in-Altered-clause-opened g c clean =
    let old = state g.S.Store c.args.conn.now in
    let new = state g.S.Store c.read_tables.new.conn in
    let reading = subst (IsReading old new) c.in-Altered.is (c.in_ok-read_tables.ensures.read clean) in
    altered_opened c.args.base.now old.now c.in-Altered.version c.in-Altered.rows c.examine_altered.result old reading.is c.examine_altered.ensures.examined

pub returns-in-Tables-clause-examined : goal.returns-in-Tables-clause-examined
returns-in-Tables-clause-examined g c clean =
    let old = state g.S.Store c.args.conn.now in
    let mid = state g.S.Store c.read_tables.new.conn in
    let new = state g.S.Store c.examine_rows.new.conn in
    let was = was_read old mid new _ c.in-Tables.version c.in-Tables.rows c.in-Tables.is c.in_ok-read_tables.ensures.opened c.in_ok-read_tables.ensures.read c.examine_rows.ensures.spares.clean clean in
    IfOk-weaker c.examine_rows.result _ _ (λ it told. rows_examined c.args.base.now old mid new c.in-Tables.version c.in-Tables.rows it was.opened was.reading told) (c.examine_rows.ensures.examined clean (λ _. was.has))

pub returns-in-Tables-clause-opened : goal.returns-in-Tables-clause-opened
returns-in-Tables-clause-opened g c clean =
    let old = state g.S.Store c.args.conn.now in
    let mid = state g.S.Store c.read_tables.new.conn in
    let new = state g.S.Store c.examine_rows.new.conn in
    let was = was_read old mid new _ c.in-Tables.version c.in-Tables.rows c.in-Tables.is c.in_ok-read_tables.ensures.opened c.in_ok-read_tables.ensures.read c.examine_rows.ensures.spares.clean clean in
    any_opened c.examine_rows.result old was.opened

pub returns-in-Altered-clause-copied : goal.returns-in-Altered-clause-copied
returns-in-Altered-clause-copied g c clean = λ _.
    (let old = state g.S.Store c.args.conn.now in
    let new = state g.S.Store c.read_tables.new.conn in
    let reading = subst (IsReading old new) c.in-Altered.is (c.in_ok-read_tables.ensures.read clean) in
    none_copied c.args.base.now old.now c.in-Altered.version c.in-Altered.rows c.examine_altered.result c.args.contents.now reading.is c.examine_altered.ensures.examined)

pub returns-in-Tables-clause-copied : goal.returns-in-Tables-clause-copied
returns-in-Tables-clause-copied g c clean = λ empty.
    (let old = state g.S.Store c.args.conn.now in
    let mid = state g.S.Store c.read_tables.new.conn in
    let new = state g.S.Store c.examine_rows.new.conn in
    let was = was_read old mid new _ c.in-Tables.version c.in-Tables.rows c.in-Tables.is c.in_ok-read_tables.ensures.opened c.in_ok-read_tables.ensures.read c.examine_rows.ensures.spares.clean clean in
    any_copied c.in-Tables.version c.examine_rows.result c.args.base.now old.now c.examine_rows.new.contents (tables_rows old.now c.in-Tables.version c.in-Tables.rows was.reading.is).0.schema
    (IfOk-weaker c.examine_rows.result _ _ (λ it told. (rows_examined c.args.base.now old mid new c.in-Tables.version c.in-Tables.rows it was.opened was.reading told).is) (c.examine_rows.ensures.examined clean (λ _. was.has)))
    (on_ok_weaker c.examine_rows.result (λ copied. copied old.now (tables_rows old.now c.in-Tables.version c.in-Tables.rows was.reading.is).1) (c.examine_rows.ensures.copied empty)))

pub returns-in-Tables-clause-rests : goal.returns-in-Tables-clause-rests
returns-in-Tables-clause-rests g c clean =
    let old = state g.S.Store c.args.conn.now in
    let mid = state g.S.Store c.read_tables.new.conn in
    let new = state g.S.Store c.examine_rows.new.conn in
    let was = was_read old mid new _ c.in-Tables.version c.in-Tables.rows c.in-Tables.is c.in_ok-read_tables.ensures.opened c.in_ok-read_tables.ensures.read c.examine_rows.ensures.spares.clean clean in
    err_behind old mid new c.examine_rows.result (was.reading.untouched.unchanged was.opened) (c.examine_rows.ensures.rests clean (λ _. was.has))
