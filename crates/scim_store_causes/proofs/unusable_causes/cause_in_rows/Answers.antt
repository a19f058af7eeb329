use Rattle.std.proofs.Common.{subst}
use Rattle.std.specs.Prelude.{Some, None, ⊤}
use Rattle.sqlite.specs.Held.{state}
use Rattle.scim_store_causes.specs.Audit.{ExplainsAudit}
use Rattle.scim_store_causes.specs.declared.unusable_causes.UnusableCause.TheVariants.{NoId}
use Rattle.scim_store_causes.proofs.LookLemmas.{looks_none, looks_as}
use Rattle.scim_store_causes.proofs.CauseLemmas.{shown_without, shown_ids}
use Rattle.scim_store_causes.proofs.unusable_causes.cause_in_rows.Goals as goal

pub returns-in-Some : goal.returns-in-Some
returns-in-Some g c =
    let s = state g.S.Store c.args.conn.now in
    looks_as _ _ s s tt (Some (NoId c.in-Some.table)) (looks_none c.args.version (λ _ _. ⊤) s tt) (λ _ has are. (c.args.version, has, shown_without c.args.version s.now c.args.rows are c.in-Some.table c.in-Some.ensures))

pub returns-in-None : goal.returns-in-None
returns-in-None g c =
    let old = state g.S.Store c.args.conn.now in
    let new = state g.S.Store c.cause_in_audit.new.conn in
    looks_as ExplainsAudit _ old new c.in_ok-cause.field-0 None c.in_ok-cause.ensures
    (λ told has are. (shown_ids c.args.version old.now c.args.rows are (rw c.in_default.is at c.table_without_id.ensures), subst (ExplainsAudit old.now) c.in-None.is told))
