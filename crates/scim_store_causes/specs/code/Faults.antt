-- The first fault of an audit, and the windows in which it is looked for.
use Rattle.std.specs.Prelude.{◌≡◌, ◌<◌, ◌≤◌, ◌+◌, ℕ, List, Contains}
use Rattle.sqlite.specs.Order.{Row, column}
use Rattle.scim_store_tables.specs.Audit.{number}
use Rattle.scim_store_causes.specs.Audit.{HasRow, HasEach, HasInvalidRow}
use Rattle.scim_store_causes.specs.declared.audit_causes.AuditFault.{AuditFault}
use Rattle.scim_store_causes.specs.declared.audit_causes.AuditFault.TheVariants.{Missing, Invalid}

-- `rows` has only rows of the audit, and all whose numbers are at least `first` and below `end`.
pub record AreBetween (first end : ℕ) (audit rows : List Row) : Type 0 where
  pub kept : (row : Row) → Contains rows row → Contains audit row
  pub all : (row : Row) (n : ℕ) → Contains audit row → column row 0 ≡ number n → first ≤ n → n < end → Contains rows row

-- The first number from `first` on that no row has, at most 159 further on; or a number whose row isn't valid.
abbrev pub IsFaultFrom : List Row → ℕ → AuditFault → Type 0
IsFaultFrom rows first (Missing n) = (first ≤ n) × (n < first + 160) × HasEach rows first n × (¬ HasRow rows n)
IsFaultFrom rows first (Invalid n) = HasInvalidRow rows n

-- The first number from 1 on that no row of the audit has, or a number whose row isn't valid.
abbrev pub IsFaultIn : List Row → AuditFault → Type 0
IsFaultIn audit (Missing n) = HasEach audit 1 n × (¬ HasRow audit n)
IsFaultIn audit (Invalid n) = HasInvalidRow audit n
