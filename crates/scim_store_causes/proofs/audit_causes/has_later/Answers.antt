use Rattle.std.proofs.Common.{rules, ◌≡◌, ◌<◌, ℕ, true, Ok, Err, subst, arith}
use Rattle.sqlite.specs.Held.{state}
use Rattle.scim_store_tables.specs.Reading.{shown}
use Rattle.scim_store_tables.specs.declared.versions.Version.TheVariants.{Two}
use Rattle.scim_store_causes.specs.Audit.{HasRow}
use Rattle.scim_store_causes.proofs.LookLemmas.{looks_none, looks_both, looks_failed, looks_as}
use Rattle.scim_store_causes.proofs.WindowLemmas.{later_found}
use Rattle.scim_store_causes.proofs.audit_causes.has_later.Goals as goal

pub loop-init : goal.loop-init
loop-init g c = record { low = omega arith; looks = looks_none Two _ (state g.S.Store c.args.conn.now) tt }

pub returns-in_err-rows : goal.returns-in_err-rows
returns-in_err-rows g c =
    let old = state g.S.Store c.args.conn.now in
    let mid = state g.S.Store c.loop.conn in
    let new = state g.S.Store c.read_between.new.conn in
    looks_failed _ _ old new c.in_err-rows.field-0.0 c.from_residual.result c.from_residual.ensures.0 (looks_both _ _ old mid new tt (Err c.in_err-rows.field-0.0) c.loop.invariant.looks c.in_err-rows.ensures)

pub returns-then-has_row_above : goal.returns-then-has_row_above
returns-then-has_row_above g c =
    let old = state g.S.Store c.args.conn.now in
    let mid = state g.S.Store c.loop.conn in
    let new = state g.S.Store c.read_between.new.conn in
    let rows = c.in_ok-rows.rows in
    let above : c.has_row_above.result ≡ true = search rules in
    let later = subst (λ xs. (m : ℕ) × (c.args.number < m) × HasRow xs m) c.as_slice.ensures.value (c.has_row_above.ensures above) in
    looks_as _ _ old new rows true (looks_both _ _ old mid new tt (Ok rows) c.loop.invariant.looks c.in_ok-rows.ensures)
    (λ told _. later_found c.loop.first c.min-end.result (shown old.now).audit rows.items c.args.number told.1 later)

pub loop-preserved : goal.loop-preserved
loop-preserved g c =
    let old = state g.S.Store c.args.conn.now in
    let mid = state g.S.Store c.loop.conn in
    let new = state g.S.Store c.read_between.new.conn in
    let rows = c.in_ok-rows.rows in
    record {
      low = omega (arith, c.min-end.ensures);
      looks = looks_as _ _ old new rows tt (looks_both _ _ old mid new tt (Ok rows) c.loop.invariant.looks c.in_ok-rows.ensures) (λ told. tt);
    }
