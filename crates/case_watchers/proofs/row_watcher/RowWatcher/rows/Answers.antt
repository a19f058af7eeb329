use Rattle.std.proofs.Common.{◌≡◌, ◌∙◌, ap, map, length, arith}
use Rattle.case_watchers.specs.Watchers.{told_row}
use Rattle.case_watchers.proofs.RowLemmas.{front, longer}
use Rattle.case_watchers.proofs.row_watcher.RowWatcher.rows.Goals as goal

pub returns : goal.returns
returns c rows begun is =
    let xs = c.args.self.now.rows.items in
    let count : c.min-count.result ≡ length rows = omega (arith, c.min-count.ensures, c.len.ensures, is.count, longer xs rows begun is.both) in
    ap (map told_row) (rw c.as_slice.ensures.value at c.split_at.ensures.front) ∙ front xs rows begun c.min-count.result count is.both
