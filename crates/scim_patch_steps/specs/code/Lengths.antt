-- The changes for which the number of values afterwards shows whether the values changed.
use Rattle.std.specs.Prelude.{Bool, true, false, not, List, [], ◌∷◌, Option, None, Some, if◌then◌else◌}
use Rattle.std.specs.List.{list_any}
use Rattle.scim_schema.specs.declared.Unit.{Unit as AttributeUnit}
use Rattle.scim_cell.specs.Rows.{is_primary}
use Rattle.scim_patch_steps.specs.Changes.{StepChange, Keep, KeepMatches, KeepSubAttribute, Append, Clear, RemoveListed, RemoveMatches}
use Rattle.scim_patch_steps.specs.Patch.{Step, Of, Patch}

-- whether the number of values after a change shows whether the change had an effect: the change does
-- nothing, only removes values, or only appends values none of which is primary
abbrev pub is_told_by_length : StepChange → Bool
is_told_by_length Keep = true
is_told_by_length (KeepMatches t) = true
is_told_by_length (KeepSubAttribute b) = true
is_told_by_length Clear = true
is_told_by_length (RemoveListed texts) = true
is_told_by_length (RemoveMatches t) = true
is_told_by_length (Append given) = not (list_any is_primary given)
is_told_by_length _ = false

-- the unit of the only step; None if there isn't exactly one step, the step has no path, or the number of
-- values after the step doesn't show whether the values changed
abbrev pub unit_told_among : List Step → Option AttributeUnit
unit_told_among (Of u change ∷ []) = if is_told_by_length change then Some u else None
unit_told_among _ = None

-- the unit of the patch's only step; None if there isn't exactly one step, the step has no path, or the
-- number of values after the step doesn't show whether the values changed
abbrev pub unit_told_by_length : Patch → Option AttributeUnit
unit_told_by_length p = unit_told_among p.steps
