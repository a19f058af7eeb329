use Rattle.std.proofs.Common.{◌≡◌, ◌∙◌, sym, ap, map, append-nil}
use Rattle.case_watchers.specs.Watchers.{told_row}
use Rattle.case_watchers.proofs.RowLemmas.{front}
use Rattle.case_watchers.proofs.row_watcher.RowWatcherWatcher.lost.Goals as goal

pub returns : goal.returns
returns c rows begun is =
    let xs = c.args.self.now.rows.items in
    record {
      both = ap (map told_row) c.truncate.ensures.items ∙ front xs rows begun c.args.self.now.committed is.count is.both ∙ sym (append-nil rows);
      count = is.count;
    }
