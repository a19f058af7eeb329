use Rattle.std.proofs.Common.{◌≡◌, ◌<◌, ◌++◌, drop}
use Rattle.std.specs.Prelude.{None}
use Rattle.std.specs.Option.{ForSome}
use Rattle.scim_cell.specs.Content.{entries_of}
use Rattle.scim_cell.specs.Rows.{numbered}
use Rattle.scim_value.proofs.part_changes.cells_of.Given as goal

abbrev pub invariant-loop-row : goal.invariant-loop-row
invariant-loop-row l = (numbered None l.rows ≡ entries_of l.cells.items ++ numbered l.last (drop l.row-index l.rows)) × ForSome l.last (λ p. p.1 < l.row-index)
