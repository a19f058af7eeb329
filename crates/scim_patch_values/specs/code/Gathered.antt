-- Appending the fields that a filter describes.
use Rattle.std.specs.Prelude.{◌≡◌, Bool, true, false, List, ◌++◌, Option, None, Some}
use Rattle.scim_cell.specs.declared.rows.Field.{Field}

-- if the result is true, the filter describes fields and they were appended; if it is false, the filter
-- describes no fields
abbrev pub Gathers : Bool → List Field → List Field → Option (List Field) → Type 0
Gathers true before after described = (fs : List Field) × (described ≡ Some fs) × (after ≡ before ++ fs)
Gathers false before after described = described ≡ None
