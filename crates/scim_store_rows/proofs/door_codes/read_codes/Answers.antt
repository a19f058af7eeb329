use Rattle.std.proofs.Common.{List, subst}
use Rattle.sqlite.specs.Order.{Row}
use Rattle.sqlite.specs.Held.{state}
use Rattle.scim_store_tables.specs.declared.versions.Version.TheVariants.{Two}
use Rattle.scim_store_tables.proofs.Facts.{if_then, any_ok, unchanged_rests}
use Rattle.scim_store_rows.proofs.LookLemmas.{codes_query, asks_codes, codes_told}
use Rattle.scim_store_rows.proofs.CodeLemmas.{AreCodes, codes_find}
use Rattle.scim_store_rows.proofs.door_codes.read_codes.Goals as goal

pub returns-in_err-rows-clause-spares : goal.returns-in_err-rows-clause-spares
returns-in_err-rows-clause-spares g c = c.ask.ensures.spares Two codes_query asks_codes

pub returns-clause-spares : goal.returns-clause-spares
returns-clause-spares g c = c.ask.ensures.spares Two codes_query asks_codes

pub returns-clause-unchanged : goal.returns-clause-unchanged
returns-clause-unchanged g c clean has = any_ok c.codes_of.result (c.in_ok-rows.ensures.read clean Two codes_query asks_codes (has (c.in_ok-rows.ensures.was_open clean))).unchanged

pub returns-clause-read : goal.returns-clause-read
returns-clause-read g c clean =
    let old = state g.S.Store c.args.conn.now in
    let new = state g.S.Store c.ask.new.conn in
    let rows = c.in_ok-rows.rows.items in
    if_then c.codes_of.result _ _ (λ codes are lists holds id.
    codes_find old new lists rows codes (codes_told old new rows (c.in_ok-rows.ensures.was_open clean) (λ q is has. c.in_ok-rows.ensures.read clean Two q is has) lists holds)
    (subst (λ (xs : List Row). AreCodes xs codes) c.as_slice.ensures.value are) id) c.codes_of.ensures

pub returns-clause-rests : goal.returns-clause-rests
returns-clause-rests g c clean lists holds =
    let old = state g.S.Store c.args.conn.now in
    let new = state g.S.Store c.ask.new.conn in
    unchanged_rests old new (codes_told old new c.in_ok-rows.rows.items (c.in_ok-rows.ensures.was_open clean) (λ q is has. c.in_ok-rows.ensures.read clean Two q is has) lists holds).unchanged
