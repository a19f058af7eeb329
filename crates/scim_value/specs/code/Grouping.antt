-- Groups cells, which are in order of place, into rows, one cell after another.
use Rattle.std.specs.Prelude.{Bool, true, false, Option, None, Some, List, [], ◌∷◌, ◌++◌}
use Rattle.scim_cell.specs.declared.places.Place.{Place}
use Rattle.scim_cell.specs.Content.{Entry}
use Rattle.scim_cell.specs.Rows.{Row, unit_at, field_of, goes_with}

-- the row with only this cell
abbrev pub row_with : Entry → Row
row_with e = record { unit = unit_at e.0; fields = field_of e ∷ [] }

-- adds a cell at the end: as the last field of the last row if the flag is true and there is a row, otherwise
-- as a new last row
abbrev pub grouped : Bool → Entry → List Row → List Row
grouped false e rs = rs ++ row_with e ∷ []
grouped true e [] = row_with e ∷ []
grouped true e (r ∷ []) = record { unit = r.unit; fields = r.fields ++ field_of e ∷ [] } ∷ []
grouped true e (r ∷ s ∷ rs) = r ∷ grouped true e (s ∷ rs)

-- whether a cell belongs to the same value as the cell before it, if there is one
abbrev pub joins : Option Place → Place → Bool
joins None p = false
joins (Some last) p = goes_with last p
