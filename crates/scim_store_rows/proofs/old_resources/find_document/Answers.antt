use Rattle.std.proofs.Common.{option_map, string_bytes, subst}
use Rattle.sqlite.specs.Held.{state}
use Rattle.scim_store_tables.specs.declared.versions.Version.TheVariants.{Two}
use Rattle.scim_store_tables.specs.Reading.{IsTextOfFirst}
use Rattle.scim_store_tables.proofs.Facts.{if_then, any_ok}
use Rattle.scim_store_rows.proofs.LookLemmas.{old_query, asks_old, old_found, old_rests}
use Rattle.scim_store_rows.proofs.old_resources.find_document.Goals as goal

pub returns-clause-found : goal.returns-clause-found
returns-clause-found g c clean =
    if_then c.first_text.result _ _ (λ found first lists holds.
    old_found (state g.S.Store c.args.conn.now) (state g.S.Store c.ask.new.conn) c.in_ok-rows.rows.items (c.in_ok-rows.ensures.was_open clean) c.args.id.now (option_map string_bytes found)
    (λ q is has. rw (c.params-to_sql.ensures) at (c.in_ok-rows.ensures.read clean Two q is has)) (subst (λ xs. IsTextOfFirst 0 xs (option_map string_bytes found)) c.as_slice.ensures.value first) lists holds) c.first_text.ensures

pub returns-clause-rests : goal.returns-clause-rests
returns-clause-rests g c clean lists holds =
    old_rests (state g.S.Store c.args.conn.now) (state g.S.Store c.ask.new.conn) c.in_ok-rows.rows.items (c.in_ok-rows.ensures.was_open clean) c.args.id.now
    (λ q is has. rw (c.params-to_sql.ensures) at (c.in_ok-rows.ensures.read clean Two q is has)) lists holds

pub returns-clause-spares : goal.returns-clause-spares
returns-clause-spares g c = c.ask.ensures.spares Two old_query asks_old

pub returns-in_err-rows-clause-spares : goal.returns-in_err-rows-clause-spares
returns-in_err-rows-clause-spares g c = c.ask.ensures.spares Two old_query asks_old

pub returns-clause-unchanged : goal.returns-clause-unchanged
returns-clause-unchanged g c clean has = any_ok c.first_text.result (c.in_ok-rows.ensures.read clean Two old_query asks_old (has (c.in_ok-rows.ensures.was_open clean))).unchanged
