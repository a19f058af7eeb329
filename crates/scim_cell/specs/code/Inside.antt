-- The row that the private fields of a `Row` represent.
use Rattle.scim_cell.specs.declared.rows.Row.TheInside.{Inside as RowInside}
use Rattle.scim_cell.specs.Rows.{Row}

-- the row that contracts see for the private fields of a `Row`
abbrev pub row_of : RowInside → Row
row_of r = record { unit = r.unit; fields = r.fields.items }
