use Rattle.std.proofs.Common.{◌≡◌}
use Rattle.std.specs.Prelude.{None}
use Rattle.scim_cell.specs.Content.{entries_of}
use Rattle.scim_cell.specs.Rows.{rows_of}
use Rattle.scim_value.proofs.GroupLemmas.{last_place}
use Rattle.scim_value.proofs.part_of_cells.rows_from.Given as goal

abbrev pub invariant-loop-cell : goal.invariant-loop-cell
invariant-loop-cell l = (l.rows.items ≡ rows_of (entries_of l.yielded)) × (l.before ≡ last_place None (entries_of l.yielded))
