-- The audit rows that a read returns, and their number.
use Rattle.std.specs.Prelude.{◌≡◌, ◌≢◌, ◌-◌, ℕ, max, List, [], ◌∷◌, take, drop, length, All, Option, Some, None}
use Rattle.sqlite.specs.Order.{Row}
use Rattle.sqlite.specs.State.{State, IsUnchanged}
use Rattle.scim_audit.specs.declared.audit_rows.AuditRow.{AuditRow}
use Rattle.scim_shelf.specs.Stores.{Store}
use Rattle.scim_store_tables.specs.Reading.{shown}
use Rattle.scim_store_tables.specs.Whole.{AreInOrder}
use Rattle.scim_store_rows.specs.Audit.{audit_row, audit_rows}
use Rattle.scim_store_rows.specs.AuditBack.{IsSound}

-- The rows are the first `count` audit rows of the store from number `from` on, or fewer if there aren't that
-- many. 0 counts as 1.
abbrev pub AreRowsFrom : ℕ → ℕ → Store → List AuditRow → Type 0
AreRowsFrom from count store rows = audit_rows (max from 1) rows ≡ take count (drop (from - 1) (audit_rows 1 store.audit))

-- The rows are the first `count` audit rows of the store from number `from` on, or fewer if there aren't that
-- many. Nothing is changed.
pub record TellsRows (from count : ℕ) (store : Store) (old new : State) (rows : List AuditRow) : Type 0 where
  pub are : AreRowsFrom from count store rows
  pub unchanged : IsUnchanged old new

-- A row of the table is a valid audit row with this number.
abbrev pub IsAuditRow : ℕ → Row → Type 0
IsAuditRow number row = (audit : AuditRow) × IsSound audit × (audit_row number audit ≡ row)

-- The number of rows, if they are valid audit rows, numbered consecutively from 1; `None` otherwise.
abbrev pub CountsAudit : List Row → Option ℕ → Type 0
CountsAudit rows None = (audit : List AuditRow) → All IsSound audit → audit_rows 1 audit ≢ rows
CountsAudit rows (Some count) = (audit : List AuditRow) × All IsSound audit × (audit_rows 1 audit ≡ rows) × (length audit ≡ count)

-- The number of audit rows of the tables, if all are valid and numbered consecutively from 1; `None` otherwise.
-- Nothing is changed.
pub record TellsCount (old new : State) (count : Option ℕ) : Type 0 where
  pub rows : List Row
  pub are : AreInOrder (0 ∷ []) (shown old.now).audit rows
  pub counts : CountsAudit rows count
  pub unchanged : IsUnchanged old new
