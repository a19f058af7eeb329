-- The data that the code records before a patch, to detect afterwards whether the resource's values changed.
use Rattle.std.specs.Prelude.{◌≡◌, Bool, not, ◌||◌, ◌==◌, List, length, AllPairs, Some}
use Rattle.std.specs.List.{list_any}
use Rattle.scim_cell.specs.Rows.{Row, values, Precedes}
use Rattle.scim_patch_steps.specs.declared.touched_units.Before.{Before}
use Rattle.scim_patch_steps.specs.declared.touched_units.Before.TheVariants.{Number, Rows}
use Rattle.scim_patch_steps.specs.Patch.{Patch, touched, is_unseen_writing}
use Rattle.scim_patch_steps.specs.code.Lengths.{unit_told_by_length}
use Rattle.scim_patch_steps.specs.code.Touched.{PassTheSame, is_other, rows_about}

-- the recorded rows, if any, are in the order of their units
abbrev pub IsInOrder : Before → Type 0
IsInOrder (Number u n) = Unit {0}
IsInOrder (Rows us v) = AllPairs (λ (r s : Row). Precedes r.unit s.unit) v.items

-- the last argument is the data that the code records for these rows before the patch: the number of values
-- of the only unit, or the units that the patch names and their rows
abbrev pub IsBefore : Patch → List Row → Before → Type 0
IsBefore p rs (Number u n) = (unit_told_by_length p ≡ Some u) × (n ≡ length (values u rs))
IsBefore p rs (Rows us v) = PassTheSame us.items (touched p) × (v.items ≡ rows_about us.items rs) × IsInOrder (Rows us v)

-- whether the patch changed something, according to the recorded data and the rows after the patch
abbrev pub tells : Patch → List Row → Before → Bool
tells p rs (Number u n) = list_any (is_unseen_writing p.kind) p.steps || not (length (values u rs) == n)
tells p rs (Rows us v) = list_any (is_unseen_writing p.kind) p.steps || list_any (is_other v.items rs) us.items
