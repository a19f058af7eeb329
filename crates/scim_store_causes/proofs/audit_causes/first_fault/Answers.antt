use Rattle.std.proofs.Common.{◌+◌, ◌*◌, Ok, Err, refl, subst, arith}
use Rattle.sqlite.specs.Held.{state}
use Rattle.scim_store_tables.specs.Reading.{shown}
use Rattle.scim_store_tables.specs.declared.versions.Version.TheVariants.{Two}
use Rattle.scim_store_causes.specs.Audit.{HasEach}
use Rattle.scim_store_causes.specs.code.Faults.{IsFaultFrom}
use Rattle.scim_store_causes.proofs.LookLemmas.{looks_none, looks_both, looks_failed, looks_as}
use Rattle.scim_store_causes.proofs.WindowLemmas.{each_none, each_more, fault_found}
use Rattle.scim_store_causes.proofs.audit_causes.first_fault.Goals as goal

pub loop-window-init : goal.loop-window-init
loop-window-init g c = let s = state g.S.Store c.args.conn.now in looks_none Two (λ db _. HasEach (shown db).audit 1 1) s (each_none (shown s.now).audit 1)

pub returns-in_err-rows : goal.returns-in_err-rows
returns-in_err-rows g c =
    let old = state g.S.Store c.args.conn.now in
    let mid = state g.S.Store c.loop-window.conn in
    let new = state g.S.Store c.read_between.new.conn in
    looks_failed _ _ old new c.in_err-rows.field-0.0 c.from_residual.result c.from_residual.ensures.0 (looks_both _ _ old mid new tt (Err c.in_err-rows.field-0.0) c.loop-window.invariant c.in_err-rows.ensures)

pub returns-in-Some : goal.returns-in-Some
returns-in-Some g c =
    let old = state g.S.Store c.args.conn.now in
    let mid = state g.S.Store c.loop-window.conn in
    let new = state g.S.Store c.read_between.new.conn in
    let rows = c.in_ok-rows.rows in
    let first = 1 + c.loop-window.window * 160 in
    let found = subst (λ xs. IsFaultFrom xs first c.in-Some.fault) c.as_slice.ensures.value c.in-Some.ensures in
    looks_as _ _ old new rows c.in-Some.fault (looks_both _ _ old mid new tt (Ok rows) c.loop-window.invariant c.in_ok-rows.ensures)
    (λ told. fault_found first (first + 160) (shown old.now).audit rows.items c.in-Some.fault refl told.0 told.1 found)

pub loop-window-preserved : goal.loop-window-preserved
loop-window-preserved g c =
    let old = state g.S.Store c.args.conn.now in
    let mid = state g.S.Store c.loop-window.conn in
    let new = state g.S.Store c.read_between.new.conn in
    let rows = c.in_ok-rows.rows in
    let first = 1 + c.loop-window.window * 160 in
    let each = subst (λ xs. HasEach xs first (first + 160)) c.as_slice.ensures.value (rw c.in_default.is at c.fault_among.ensures) in
    looks_as _ _ old new rows tt (looks_both _ _ old mid new tt (Ok rows) c.loop-window.invariant c.in_ok-rows.ensures)
    (λ told. each_more first (first + 160) (shown old.now).audit rows.items (1 + (c.loop-window.window + 1) * 160) told.0 told.1 (λ n from to. each n from (omega (arith, to))))
