-- What the statement on the audit makes of the tables.
use Rattle.std.proofs.Common.{◌≡◌, ℕ, pos, List, [], ◌∷◌, Bor, Option, None, Some, Result, refl}
use Rattle.std.specs.Option.{option_copied}
use Rattle.sqlite.specs.declared.types.Value.TheVariants.{Null, Text}
use Rattle.sqlite.specs.declared.error.Error.{Error}
use Rattle.sqlite.specs.Cast.{cast}
use Rattle.sqlite.specs.Kind.TheVariants as kind
use Rattle.sqlite.specs.Order.{Row}
use Rattle.sqlite.specs.Table.{Table}
use Rattle.sqlite.specs.State.{State, ExecutesInside}
use Rattle.sqlite.specs.Values.{or_null, bound_value}
use Rattle.scim_store_tables.specs.Tables.{audit_table}
use Rattle.scim_store_tables.specs.Audit.{number, audit_values}
use Rattle.scim_store_tables.specs.declared.audit.AuditColumns.{AuditColumns}
use Rattle.scim_store_tables.proofs.TextLemmas.{insert_audit_text, audit_terms, inserts_audit}
use Rattle.scim_store_tables.proofs.ChangeLemmas.{cast_null, cast_int, inserted, inside}
use Rattle.scim_store_tables.proofs.WriteLemmas.{Edits}
use Rattle.scim_store_tables.proofs.TableLemmas.{puts_audit}

-- ---- values that may be absent

pub bound_text : (o : Option (Bor (List ℕ))) → bound_value (or_null (λ s. Text s.now) o) ≡ or_null Text (option_copied o)
bound_text None = refl
bound_text (Some s) = refl

pub bound_number : (o : Option ℕ) → bound_value (or_null number o) ≡ or_null number o
bound_number None = refl
bound_number (Some n) = refl

cast_text : (o : Option (List ℕ)) → cast kind.Text (or_null Text o) ≡ or_null Text o
cast_text None = refl
cast_text (Some s) = refl

cast_number : (o : Option ℕ) → cast kind.Integer (or_null number o) ≡ or_null number o
cast_number None = cast_null
cast_number (Some n) = cast_int (pos n)

module _ (old new : State) (r : Result ℕ Error) where
  pub inserts_audit_row : (a : AuditColumns) → ExecutesInside 0 insert_audit_text (audit_values a) old new r → Edits old new r (λ lists. record lists { audit = audit_values a ∷ lists.audit })
  inserts_audit_row a =
      let table : Table = record audit_table { tree = 8 } in
      let row : Row = number a.number ∷ Null ∷ number a.moment ∷ Text a.client.now ∷ number a.op ∷ number a.kind ∷ or_null Text (option_copied a.id) ∷ number a.decided ∷ or_null number a.rule ∷ or_null Text (option_copied a.leaf) ∷ or_null number a.refusal ∷ [] in
      inside insert_audit_text (audit_values a) old new r (λ count h lists are.
      let step = inserted old new insert_audit_text (audit_values a) table are.schema 4 audit_terms 11 row inserts_audit refl
      (rw (cast_null, cast_int (pos a.number), cast_int (pos a.moment), cast_int (pos a.op), cast_int (pos a.kind), cast_int (pos a.decided), cast_text (option_copied a.id), cast_text (option_copied a.leaf), cast_number a.rule, cast_number a.refusal)) (λ tally does. does) count h in
      puts_audit old.now new.now lists are row (audit_values a) step refl)
