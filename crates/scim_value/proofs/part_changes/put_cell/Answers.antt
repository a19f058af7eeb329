use Rattle.std.proofs.Common.{sym, ap, ◌∙◌}
use Rattle.scim_cell.specs.Content.{place_of, entries_of}
use Rattle.scim_value.proofs.FindLemmas.{searchable}
use Rattle.scim_value.proofs.PutLemmas.{put-at, put-new}
use Rattle.scim_value.proofs.part_changes.put_cell.Goals as goal

pub returns-in-Ok : goal.returns-in-Ok
returns-in-Ok c =
    let range = rw c.as_slice.ensures.value at c.in-Ok.ensures.range in
    let tie = rw (c.as_slice.ensures.value, c.place.ensures) at (c.in-Ok.ensures.searched c.args.cell) in
    sym (put-at c.args.cell c.args.cells.now.items c.in-Ok.index c.args.cell c.requires range tie)

pub returns-in_ok-insert-in-Err : goal.returns-in_ok-insert-in-Err
returns-in_ok-insert-in-Err c =
    let range = rw c.as_slice.ensures.value at c.in-Err.ensures.range in
    let searched = rw (c.as_slice.ensures.value, c.place.ensures) at c.in-Err.ensures.searched in
    let point = searched (searchable (place_of c.args.cell) c.args.cells.now.items c.requires) in
    ap entries_of c.in_ok-insert-in-Err.ensures.items ∙ sym (put-new c.args.cell c.args.cells.now.items c.in-Err.index range point.0 point.1)
