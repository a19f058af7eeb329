use Rattle.std.proofs.Common.{◌≡◌, ◌∙◌, ap, map, ◌+◌, ◌∷◌, [], ◌++◌, length, length-append, arith}
use Rattle.case_watchers.specs.Watchers.{told_row}
use Rattle.case_watchers.proofs.RowLemmas.{all_but_last, longer}
use Rattle.case_watchers.proofs.row_watcher.RowWatcherWatcher.failed.Goals as goal

pub returns : goal.returns
returns c rows begun row is =
    let xs = c.args.self.now.rows.items in
    let long = longer xs rows (begun ++ row ∷ []) is.both in
    record {
      both = ap (map told_row) c.pop-row.ensures.rest ∙ all_but_last xs rows begun row _ (omega (arith, long, length-append begun (row ∷ []))) is.both;
      count = is.count;
    }
