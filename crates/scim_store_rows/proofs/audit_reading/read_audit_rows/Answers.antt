use Rattle.std.proofs.Common.{◌≤◌, w64, sym, subst, arith}
use Rattle.std.specs.Prelude.{FitsSigned}
use Rattle.std.proofs.lemmas.Int.{to_z-of_z}
use Rattle.sqlite.specs.Held.{state}
use Rattle.scim_store_tables.specs.Audit.{last_number}
use Rattle.scim_store_tables.proofs.Facts.{both_then}
use Rattle.scim_store_rows.proofs.SpanLemmas.{TellsBetween, tells_rows, fits}
use Rattle.scim_store_rows.proofs.audit_reading.read_audit_rows.Goals as goal

pub returns-clause-read : goal.returns-clause-read
returns-clause-read g c clean =
    let first = c.span-first.result.0 in
    let end = c.span-first.result.1 in
    let old = state g.S.Store c.args.conn.now in
    let new = state g.S.Store c.read_audit_between.new.conn in
    let first_low : first ≤ last_number = omega (arith, c.span-first.ensures.begins) in
    let end_low : end ≤ last_number = omega (arith, c.span-first.ensures.ends) in
    let first_kept = to_z-of_z w64 c.sql_number.result (subst (FitsSigned w64) (sym c.sql_number.ensures) (fits first first_low)) in
    let end_kept = to_z-of_z w64 c.sql_number-2.result (subst (FitsSigned w64) (sym c.sql_number-2.ensures) (fits end end_low)) in
    let tells : TellsBetween first end old new c.in_ok-rows.rows.items = rw (first_kept, end_kept, c.sql_number.ensures, c.sql_number-2.ensures) at (c.in_ok-rows.ensures.read clean) in
    both_then c.read_span.result _ _ _ (λ read apart reads base store stands.
    tells_rows base c.args.from c.args.count first end old new c.in_ok-rows.rows.items read.items store c.span-first.ensures tells (rw c.as_slice.ensures.value at reads) (rw c.as_slice.ensures.value at apart) stands) c.read_span.ensures.apart c.read_span.ensures.read
