use Rattle.std.proofs.Common.{rules, ◌≡◌, true, Ok, Err, subst}
use Rattle.sqlite.specs.Held.{state}
use Rattle.scim_store_tables.specs.Reading.{shown}
use Rattle.scim_store_causes.specs.code.Faults.{IsFaultIn}
use Rattle.scim_store_causes.specs.declared.audit_causes.AuditCause.TheVariants.{Gap, Rows}
use Rattle.scim_store_causes.proofs.LookLemmas.{looks_both, looks_failed, looks_as}
use Rattle.scim_store_causes.proofs.audit_causes.known_cause.Goals as goal

pub returns-in_err-has_later-in-Missing : goal.returns-in_err-has_later-in-Missing
returns-in_err-has_later-in-Missing g c =
    let old = state g.S.Store c.args.conn.now in
    let mid = state g.S.Store c.first_fault.new.conn in
    let new = state g.S.Store c.has_later.new.conn in
    looks_failed _ _ old new c.in_err-has_later-in-Missing.field-0.0 c.from_residual-in_err-has_later-in-Missing.result c.from_residual-in_err-has_later-in-Missing.ensures.0
    (looks_both _ _ old mid new c.in_ok-number.field-0 (Err c.in_err-has_later-in-Missing.field-0.0) c.in_ok-number.ensures c.in_err-has_later-in-Missing.ensures)

pub returns-then-branch : goal.returns-then-branch
returns-then-branch g c =
    let old = state g.S.Store c.args.conn.now in
    let mid = state g.S.Store c.first_fault.new.conn in
    let new = state g.S.Store c.has_later.new.conn in
    let found = c.in_ok-has_later-in-Missing.field-0 in
    let there : found ≡ true = search rules in
    looks_as _ _ old new found (Gap c.in-Missing.number) (looks_both _ _ old mid new c.in_ok-number.field-0 (Ok found) c.in_ok-number.ensures c.in_ok-has_later-in-Missing.ensures)
    (λ told. (let fault = subst (IsFaultIn (shown old.now).audit) c.in-Missing.is told.0 in record { before = fault.0; missing = fault.1; later = told.1 there }))

pub returns-else-branch : goal.returns-else-branch
returns-else-branch g c =
    let old = state g.S.Store c.args.conn.now in
    let mid = state g.S.Store c.first_fault.new.conn in
    let new = state g.S.Store c.has_later.new.conn in
    let found = c.in_ok-has_later-in-Missing.field-0 in
    looks_as _ _ old new found Rows (looks_both _ _ old mid new c.in_ok-number.field-0 (Ok found) c.in_ok-number.ensures c.in_ok-has_later-in-Missing.ensures) (λ told. tt)
