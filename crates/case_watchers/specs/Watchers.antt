-- What a watcher that keeps rows was told.
use Rattle.std.specs.Prelude.{◌≡◌, List, ◌++◌, length, map}
use Rattle.scim_shelf_watch.specs.Watched.{NumberedRow, numbered_row}
use Rattle.case_watchers.specs.declared.row_watcher.ToldRow.{ToldRow}
use Rattle.case_watchers.specs.declared.row_watcher.RowWatcher.{RowWatcher}

-- The row and its number.
abbrev pub told_row : ToldRow → NumberedRow
told_row told = numbered_row told.number told.row

-- The rows that the watcher keeps.
abbrev pub rows_of : RowWatcher → List NumberedRow
rows_of watcher = map told_row watcher.rows.items

-- The watcher keeps the rows that were committed, and behind them those of the commits that have begun.
pub record HasTold (watcher : RowWatcher) (rows begun : List NumberedRow) : Type 0 where
  pub both : rows_of watcher ≡ rows ++ begun
  pub count : watcher.committed ≡ length rows
