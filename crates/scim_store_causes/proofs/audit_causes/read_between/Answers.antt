use Rattle.std.proofs.Common.{w64, sym, subst}
use Rattle.std.specs.Prelude.{FitsSigned}
use Rattle.std.proofs.lemmas.Int.{to_z-of_z}
use Rattle.sqlite.specs.Held.{state}
use Rattle.scim_store_causes.proofs.WindowLemmas.{fits, window_looks}
use Rattle.scim_store_causes.proofs.audit_causes.read_between.Goals as goal

pub returns : goal.returns
returns g c =
    let old = state g.S.Store c.args.conn.now in
    let new = state g.S.Store c.read_audit_between.new.conn in
    let first = to_z-of_z w64 c.sql_number.result (subst (FitsSigned w64) (sym c.sql_number.ensures) (fits c.args.first c.requires.first)) in
    let end = to_z-of_z w64 c.sql_number-2.result (subst (FitsSigned w64) (sym c.sql_number-2.ensures) (fits c.args.end c.requires.end)) in
    window_looks c.args.first c.args.end old new c.read_audit_between.result c.read_audit_between.ensures.mode c.read_audit_between.ensures.spares
    (λ clean. rw (first, end, c.sql_number.ensures, c.sql_number-2.ensures) at (c.read_audit_between.ensures.read clean)) c.read_audit_between.ensures.rests
