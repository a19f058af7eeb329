use Rattle.std.proofs.Common.{subst}
use Rattle.sqlite.specs.Held.{state}
use Rattle.scim_store_tables.specs.Looking.{BeginsWithVersion}
use Rattle.scim_store_tables.proofs.LookLemmas.{look_told, look_refused, look_failed}
use Rattle.scim_store_tables.proofs.database_kinds.names_known.Goals as goal

pub returns-in-Ok : goal.returns-in-Ok
returns-in-Ok g c =
    let old = state g.S.Store c.args.conn.now in
    let new = state g.S.Store c.query_all.new.self in
    look_told old new c.query_all.ensures.mode c.query_all.ensures.survives c.in-Ok.rows.items c.begins_with_version.result c.in-Ok.ensures.ok
    (λ one. subst BeginsWithVersion c.as_slice.ensures.value (c.begins_with_version.ensures.yes one))
    (λ fails. subst (λ xs. ¬ BeginsWithVersion xs) c.as_slice.ensures.value (c.begins_with_version.ensures.no fails))

pub returns-then-is_refusal : goal.returns-then-is_refusal
returns-then-is_refusal g c =
    let old = state g.S.Store c.args.conn.now in
    let new = state g.S.Store c.query_all.new.self in
    look_refused old new c.query_all.ensures.mode c.query_all.ensures.survives c.in-Err.error (c.is_refusal.ensures c.if-is_refusal.true) c.in-Err.ensures.err

pub returns-else-is_refusal : goal.returns-else-is_refusal
returns-else-is_refusal g c =
    let old = state g.S.Store c.args.conn.now in
    let new = state g.S.Store c.query_all.new.self in
    look_failed old new c.query_all.ensures.mode c.query_all.ensures.survives c.in-Err.error c.in-Err.ensures.err
