-- Audit rows as rows of the table `audit`.
use Rattle.std.specs.Prelude.{◌≡◌, ℕ, ◌+◌, ◌-◌, List, [], ◌∷◌}
use Rattle.std.specs.Option.{option_map}
use Rattle.sqlite.specs.declared.types.Value.TheVariants.{Text}
use Rattle.sqlite.specs.Order.{Row}
use Rattle.sqlite.specs.Values.{or_null}
use Rattle.scim_schema.specs.declared.Kind.{Kind}
use Rattle.scim_schema.specs.declared.Kind.TheVariants.{User, Group}
use Rattle.scim_schema.specs.declared.Op.{Op}
use Rattle.scim_schema.specs.declared.Op.TheVariants.{Read, Create, Modify, Delete}
use Rattle.scim_cell.specs.Ids.{id_text}
use Rattle.scim_audit.specs.declared.refusals.Refusal.{Refusal}
use Rattle.scim_audit.specs.declared.audit_rows.Decided.{Decided}
use Rattle.scim_audit.specs.declared.audit_rows.Decided.TheVariants.{Allow, Deny, Hidden, Absent, Refused}
use Rattle.scim_audit.specs.declared.audit_rows.AuditRow.{AuditRow}
use Rattle.scim_audit.specs.Refusals.{number_of}
use Rattle.scim_audit.specs.Rows.{leaf_path}
use Rattle.scim_store_tables.specs.Audit.{number}
use Rattle.scim_store_rows.specs.declared.audit_columns.AuditTexts.{AuditTexts}

-- The number of a kind, counted from 0.
abbrev pub kind_number : Kind → ℕ
kind_number User = 0
kind_number Group = 1

-- The number of an operation, counted from 0.
abbrev pub op_number : Op → ℕ
op_number Read = 0
op_number Create = 1
op_number Modify = 2
op_number Delete = 3

-- The number of a decision, counted from 0.
abbrev pub decided_number : Decided → ℕ
decided_number Allow = 0
decided_number Deny = 1
decided_number Hidden = 2
decided_number Absent = 3
decided_number Refused = 4

-- The number of a refusal, counted from 0. `BadMethod` has the same number for any methods.
abbrev pub refusal_number : Refusal → ℕ
refusal_number refusal = number_of refusal - 1

-- An audit row with its number, as a row of the table. A missing field is NULL.
abbrev pub audit_row : ℕ → AuditRow → Row
audit_row n row =
    number n ∷ number row.moment ∷ Text row.client ∷ number (op_number row.op) ∷ number (kind_number row.kind) ∷ or_null Text (option_map id_text row.id)
    ∷ number (decided_number row.decided) ∷ or_null number row.rule ∷ or_null Text (option_map leaf_path row.leaf) ∷ or_null number (option_map refusal_number row.refusal) ∷ []

-- Audit rows as rows of the table, numbered consecutively from `n`.
abbrev pub audit_rows : ℕ → List AuditRow → List Row
audit_rows n [] = []
audit_rows n (row ∷ rows) = audit_row n row ∷ audit_rows (n + 1) rows

-- `texts` has the texts of the id and the leaf of the row.
pub record AreTexts (texts : AuditTexts) (row : AuditRow) : Type 0 where
  pub id : texts.id ≡ option_map id_text row.id
  pub leaf : texts.leaf ≡ option_map leaf_path row.leaf
