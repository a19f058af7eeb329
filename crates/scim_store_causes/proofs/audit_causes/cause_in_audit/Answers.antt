use Rattle.std.proofs.Common.{rules, ◌≡◌, true, false, Ok, Err, sym, subst}
use Rattle.std.specs.Prelude.{Some, None}
use Rattle.std.specs.Option.{is_some}
use Rattle.sqlite.specs.Held.{state}
use Rattle.scim_store_tables.specs.Reading.{shown}
use Rattle.scim_store_causes.specs.Audit.{PointsTo, ExplainsAudit}
use Rattle.scim_store_causes.specs.code.Looks.{Looks}
use Rattle.scim_store_causes.specs.declared.audit_causes.AuditCause.TheVariants.{Rows}
use Rattle.scim_store_causes.proofs.LookLemmas.{looks_both, looks_failed, looks_as}
use Rattle.scim_store_causes.proofs.CauseLemmas.{IsCounted, counted_looks, counted_valid, counted_invalid}
use Rattle.scim_store_causes.proofs.audit_causes.cause_in_audit.Goals as goal

pub returns-in_err-count_audit : goal.returns-in_err-count_audit
returns-in_err-count_audit g c =
    let old = state g.S.Store c.args.conn.now in
    let mid = state g.S.Store c.count_audit.new.conn in
    let e = c.count_audit.ensures in
    let counted = counted_looks c.args.version old mid c.count_audit.result e.mode (e.spares c.args.version) (λ clean has. e.counted clean c.args.version has) (λ clean has. e.rests clean c.args.version has) in
    looks_failed IsCounted ExplainsAudit old mid c.in_err-count_audit.field-0.0 c.from_residual.result c.from_residual.ensures.0 (subst (Looks c.args.version IsCounted old mid) c.in_err-count_audit.was counted)

pub returns-then-is_some : goal.returns-then-is_some
returns-then-is_some g c =
    let old = state g.S.Store c.args.conn.now in
    let mid = state g.S.Store c.count_audit.new.conn in
    let e = c.count_audit.ensures in
    let counted = counted_looks c.args.version old mid c.count_audit.result e.mode (e.spares c.args.version) (λ clean has. e.counted clean c.args.version has) (λ clean has. e.rests clean c.args.version has) in
    let count = c.in_ok-count_audit.field-0 in
    let some : is_some count ≡ true = search rules in
    looks_as IsCounted ExplainsAudit old mid count None (subst (Looks c.args.version IsCounted old mid) c.in_ok-count_audit.was counted) (λ is. counted_valid old.now count some is)

pub returns-in-One : goal.returns-in-One
returns-in-One g c =
    let old = state g.S.Store c.args.conn.now in
    let mid = state g.S.Store c.count_audit.new.conn in
    let e = c.count_audit.ensures in
    let counted = counted_looks c.args.version old mid c.count_audit.result e.mode (e.spares c.args.version) (λ clean has. e.counted clean c.args.version has) (λ clean has. e.rests clean c.args.version has) in
    let count = c.in_ok-count_audit.field-0 in
    let none : is_some count ≡ false = search rules in
    looks_as IsCounted ExplainsAudit old mid count (Some Rows) (subst (Looks c.args.version IsCounted old mid) c.in_ok-count_audit.was counted) (λ is. (counted_invalid old.now count none is, tt))

pub returns-in_err-known_cause-in-Two : goal.returns-in_err-known_cause-in-Two
returns-in_err-known_cause-in-Two g c =
    let old = state g.S.Store c.args.conn.now in
    let mid = state g.S.Store c.count_audit.new.conn in
    let e = c.count_audit.ensures in
    let counted = counted_looks c.args.version old mid c.count_audit.result e.mode (e.spares c.args.version) (λ clean has. e.counted clean c.args.version has) (λ clean has. e.rests clean c.args.version has) in
    let new = state g.S.Store c.known_cause.new.conn in
    let e = c.in_err-known_cause-in-Two.field-0.0 in
    let known = subst (λ v. Looks v (λ db cause. PointsTo (shown db).audit cause) mid new (Err e)) (sym c.in-Two.is) c.in_err-known_cause-in-Two.ensures in
    looks_failed _ ExplainsAudit old new e c.from_residual-in_err-known_cause-in-Two.result c.from_residual-in_err-known_cause-in-Two.ensures.0
    (looks_both IsCounted _ old mid new c.in_ok-count_audit.field-0 (Err e) (subst (Looks c.args.version IsCounted old mid) c.in_ok-count_audit.was counted) known)

pub returns-in_ok-known_cause-in-Two : goal.returns-in_ok-known_cause-in-Two
returns-in_ok-known_cause-in-Two g c =
    let old = state g.S.Store c.args.conn.now in
    let mid = state g.S.Store c.count_audit.new.conn in
    let e = c.count_audit.ensures in
    let counted = counted_looks c.args.version old mid c.count_audit.result e.mode (e.spares c.args.version) (λ clean has. e.counted clean c.args.version has) (λ clean has. e.rests clean c.args.version has) in
    let new = state g.S.Store c.known_cause.new.conn in
    let count = c.in_ok-count_audit.field-0 in
    let none : is_some count ≡ false = search rules in
    let cause = c.in_ok-known_cause-in-Two.field-0 in
    let known = subst (λ v. Looks v (λ db cause. PointsTo (shown db).audit cause) mid new (Ok cause)) (sym c.in-Two.is) c.in_ok-known_cause-in-Two.ensures in
    looks_as _ ExplainsAudit old new cause (Some cause) (looks_both IsCounted _ old mid new count (Ok cause) (subst (Looks c.args.version IsCounted old mid) c.in_ok-count_audit.was counted) known)
    (λ told. (counted_invalid old.now count none told.0, told.1))
