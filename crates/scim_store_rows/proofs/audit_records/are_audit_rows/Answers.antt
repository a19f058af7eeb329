use Rattle.std.proofs.Common.{◌≡◌, ◌++◌, ◌∷◌, [], rules, arith}
use Rattle.std.proofs.lemmas.List.Elements.{All-nil, All-cons, All-append}
use Rattle.scim_store_rows.specs.AuditBack.{IsSound}
use Rattle.scim_store_rows.proofs.ReadLemmas.{more_read, none_read}
use Rattle.scim_store_rows.proofs.audit_records.are_audit_rows.Goals as goal

pub returns-in_default : goal.returns-in_default
returns-in_default c =
    let none = rw c.in_default.is at c.in_ok-audit_row.ensures in
    none_read c.args.first c.loop-row.number c.loop-row.row-index c.args.rows.now c.row-item.result (omega arith) c.row-item.is c.loop-row.invariant.number none

pub loop-row-preserved : goal.loop-row-preserved
loop-row-preserved c =
    let found = rw c.in-Some.is at c.in_ok-audit_row.ensures in
    let pushed : c.push.new.values.items ≡ c.loop-row.read.items ++ c.in-Some.audit_row ∷ [] = search rules in
    record {
      number = omega (arith, c.loop-row.invariant.number);
      read = rw pushed (more_read c.args.first c.loop-row.number c.loop-row.row-index c.args.rows.now c.row-item.result c.loop-row.read.items c.in-Some.audit_row (omega arith) c.row-item.is c.loop-row.invariant.number c.loop-row.invariant.read found.1);
      sound = rw pushed (All-append IsSound c.loop-row.read.items (c.in-Some.audit_row ∷ []) c.loop-row.invariant.sound (All-cons IsSound c.in-Some.audit_row [] found.0 (All-nil IsSound)));
    }
