-- What is wrong with the rows of the audit.
use Rattle.std.specs.Prelude.{◌≡◌, ◌<◌, ◌≤◌, ℕ, List, [], ◌∷◌, Contains, Option, Some, None, ⊤}
use Rattle.sqlite.specs.Effect.{Database}
use Rattle.sqlite.specs.Order.{Row, column}
use Rattle.scim_store_tables.specs.Audit.{number}
use Rattle.scim_store_tables.specs.Reading.{shown}
use Rattle.scim_store_tables.specs.Whole.{AreInOrder}
use Rattle.scim_store_rows.specs.Auditing.{IsAuditRow, CountsAudit}
use Rattle.scim_store_causes.specs.declared.audit_causes.AuditCause.{AuditCause}
use Rattle.scim_store_causes.specs.declared.audit_causes.AuditCause.TheVariants.{Gap, Row as InvalidRow, Rows}

-- One of the rows has this number.
abbrev pub HasRow : List Row → ℕ → Type 0
HasRow rows n = (row : Row) × Contains rows row × (column row 0 ≡ number n)

-- There is a row for each number from `first` up to `end`, exclusive.
abbrev pub HasEach : List Row → ℕ → ℕ → Type 0
HasEach rows first end = (n : ℕ) → first ≤ n → n < end → HasRow rows n

-- No row has the number `n`, which is the first such number from 1 on, and a row has a larger number.
pub record HasGapAt (rows : List Row) (n : ℕ) : Type 0 where
  pub before : HasEach rows 1 n
  pub missing : ¬ HasRow rows n
  pub later : (m : ℕ) × (n < m) × HasRow rows m

-- A row has the number `n`, and isn't a valid audit row.
abbrev pub HasInvalidRow : List Row → ℕ → Type 0
HasInvalidRow rows n = (row : Row) × Contains rows row × (column row 0 ≡ number n) × (¬ IsAuditRow n row)

-- The audit's rows in order of their numbers are valid audit rows, numbered consecutively from 1.
abbrev pub HasValidAudit : Database → Type 0
HasValidAudit db = (rows : List Row) × (count : ℕ) × AreInOrder (0 ∷ []) (shown db).audit rows × CountsAudit rows (Some count)

-- The audit's rows in order of their numbers aren't valid audit rows, numbered consecutively from 1.
abbrev pub HasInvalidAudit : Database → Type 0
HasInvalidAudit db = (rows : List Row) × AreInOrder (0 ∷ []) (shown db).audit rows × CountsAudit rows None

-- The rows have the gap or the invalid row that the cause names. `Rows` names none.
abbrev pub PointsTo : List Row → AuditCause → Type 0
PointsTo rows (Gap n) = HasGapAt rows n
PointsTo rows (InvalidRow n) = HasInvalidRow rows n
PointsTo rows Rows = ⊤

-- `None` if the audit is valid. A cause if it isn't: the gap or the invalid row that it names is there.
abbrev pub ExplainsAudit : Database → Option AuditCause → Type 0
ExplainsAudit db None = HasValidAudit db
ExplainsAudit db (Some cause) = HasInvalidAudit db × PointsTo (shown db).audit cause
