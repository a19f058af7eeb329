-- The cells that a filter is evaluated on, as specified.
use Rattle.std.specs.Prelude.{List, []}
use Rattle.scim_cell.specs.Rows.{Row, rows, attribute_rows}
use Rattle.scim_filter.specs.declared.truth.Cells.{Cells}
use Rattle.scim_filter.specs.declared.truth.Cells.TheVariants as cells

-- the rows with these cells
abbrev pub rows_in : Cells → List Row
rows_in (cells.All part) = rows part.now
rows_in (cells.Of a rs) = attribute_rows a rs.now
rows_in cells.None = []
