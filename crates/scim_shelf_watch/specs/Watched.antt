-- What a watcher of a shelf is told, and the state of a watched shelf.
use Rattle.std.specs.Prelude.{◌≡◌, ◌<◌, ◌≤◌, ◌+◌, ◌^◌, ℕ, Bool, true, false, List, [], ◌∷◌, length, drop, take}
use Rattle.scim_audit.specs.declared.audit_rows.AuditRow.{AuditRow}
use Rattle.scim_shelf.specs.Shelves.{Round, settled, since}
use Rattle.scim_shelf.specs.Stores.{Store}
use Rattle.scim_shelf_watch.specs.declared.watched.WatchedShelf.{WatchedShelf}

-- An audit row and its number.
pub record NumberedRow : Type 0 where
  pub number : ℕ
  pub row : AuditRow

-- The audit row with this number.
abbrev pub numbered_row : ℕ → AuditRow → NumberedRow
numbered_row number row = record { number = number; row = row }

-- The rows with their numbers, if the first one has the number `first`.
abbrev pub numbered : ℕ → List AuditRow → List NumberedRow
numbered first [] = []
numbered first (row ∷ rows) = numbered_row first row ∷ numbered (first + 1) rows

-- The rows of the audit that were committed since the watching began, if the first `told_rows` rows of it are.
abbrev pub committed_rows : ℕ → ℕ → List AuditRow → List NumberedRow
committed_rows before told_rows audit = numbered (before + 1) (drop before (take told_rows audit))

-- The rows of the audit whose commits have begun, behind the first `told_rows` rows.
abbrev pub begun_rows : ℕ → List AuditRow → List NumberedRow
begun_rows told_rows audit = numbered (told_rows + 1) (drop told_rows audit)

-- The count of rows is that of the audit. The first `told_rows` rows of it are committed: all, unless a round is
-- under way. The watcher was told of exactly these after the first `before` rows, and that the commits of exactly
-- the rows behind them have begun: each once, in order, with its number.
pub record IsWatched {W : Type 0} (Told : W → List NumberedRow → List NumberedRow → Type 0) (watcher : W) (before told_rows rows : ℕ) (in_round : Bool)
    (audit : List AuditRow) : Type 0 where
  pub count : rows ≡ length audit
  pub part : before ≤ told_rows
  pub within : told_rows ≤ length audit
  pub alone : in_round ≡ false → told_rows ≡ rows
  pub told : Told watcher (committed_rows before told_rows audit) (begun_rows told_rows audit)

-- The first `told_rows` rows are the audit, and the watcher was told of those after the first `before` ones.
pub record WasWatched {W : Type 0} (Told : W → List NumberedRow → List NumberedRow → Type 0) (watcher : W) (before told_rows : ℕ) (audit : List AuditRow) : Type 0 where
  pub count : told_rows ≡ length audit
  pub part : before ≤ length audit
  pub begun : List NumberedRow
  pub told : Told watcher (numbered (before + 1) (drop before audit)) begun

-- The shelf below.
abbrev pub lower_of : {S W : Type 0} → WatchedShelf S W → S
lower_of shelf = shelf.lower

-- The watcher.
abbrev pub watcher_of : {S W : Type 0} → WatchedShelf S W → W
watcher_of shelf = shelf.watcher

-- The count of audit rows.
abbrev pub rows_of : {S W : Type 0} → WatchedShelf S W → ℕ
rows_of shelf = shelf.rows

-- The watched shelf represents the store: the shelf below does, and the watcher was told of the audit since the
-- watching began, as long as there are fewer than 2^64 rows.
abbrev pub Represents : {S W : Type 0} → (S → Store → Type 0) → (W → List NumberedRow → List NumberedRow → Type 0) → WatchedShelf S W → Store → Type 0
Represents Stands Told shelf store =
    Stands shelf.lower store
    × (length store.audit < 2 ^ 64 → IsWatched Told shelf.watcher shelf.before shelf.told_rows shelf.rows shelf.in_round store.audit)

-- The watched shelf has this round: the shelf below has it, and the watcher was told of the audit of the store
-- before it, as long as there are fewer than 2^64 rows.
abbrev pub IsInRound : {S W : Type 0} → (S → Round → Type 0) → (W → List NumberedRow → List NumberedRow → Type 0) → WatchedShelf S W → Round → Type 0
IsInRound HasRound Told shelf settled = (shelf.in_round ≡ false) × HasRound shelf.lower settled
IsInRound HasRound Told shelf (since store) =
    (shelf.in_round ≡ true) × HasRound shelf.lower (since store)
    × (length store.audit < 2 ^ 64 → WasWatched Told shelf.watcher shelf.before shelf.told_rows store.audit)

-- The count of audit rows when the watching began.
abbrev pub before_of : {S W : Type 0} → WatchedShelf S W → ℕ
before_of shelf = shelf.before

-- The count of audit rows that the watcher was told to be committed.
abbrev pub told_rows_of : {S W : Type 0} → WatchedShelf S W → ℕ
told_rows_of shelf = shelf.told_rows

-- The watched shelf with the shelf below it replaced by `lower`.
abbrev pub with_lower : {S W : Type 0} → WatchedShelf S W → S → WatchedShelf S W
with_lower shelf lower = record shelf { lower = lower }

-- The watched shelf with the watcher replaced by `watcher`.
abbrev pub with_watcher : {S W : Type 0} → WatchedShelf S W → W → WatchedShelf S W
with_watcher shelf watcher = record shelf { watcher = watcher }
