use Rattle.std.proofs.Common.{sym, subst, ◌∙◌}
use Rattle.scim_cell.specs.Content.{entries_of, AreSortedPartCells}
use Rattle.scim_cell.specs.Rows.{AreSound}
use Rattle.scim_value.proofs.ChainLemmas.{chain-ArePartCells}
use Rattle.scim_value.proofs.OfLemmas.{sound_rows, entries_back}
use Rattle.scim_value.proofs.parts.Part.of_sorted.Goals as goal

pub of_rows-requires : goal.of_rows-requires
of_rows-requires c =
    let own : AreSortedPartCells c.args.kind (entries_of c.args.cells.items) = rw c.as_slice.ensures.value at (c.are_sorted_part_cells.ensures.0 c.if-not-are_sorted_part_cells.false) in
    subst (AreSound c.args.kind) (sym c.in_ok-rows.ensures) (sound_rows c.args.kind (entries_of c.args.cells.items) (chain-ArePartCells c.args.kind (entries_of c.args.cells.items) own.0 own.1))

pub returns-clause-cells : goal.returns-clause-cells
returns-clause-cells c =
    let own : AreSortedPartCells c.args.kind (entries_of c.args.cells.items) = rw c.as_slice.ensures.value at (c.are_sorted_part_cells.ensures.0 c.if-not-are_sorted_part_cells.false) in
    entries_back c.args.kind c.of_rows.result (entries_of c.args.cells.items) c.of_rows.ensures.valid
    (chain-ArePartCells c.args.kind (entries_of c.args.cells.items) own.0 own.1) (c.of_rows.ensures.rows ∙ c.in_ok-rows.ensures)
