-- The table of paths and operations: the effect of each change on the values of its unit (RFC 7644 section
-- 3.5.2).
use Rattle.std.specs.Prelude.{not, List, [], ◌∷◌, map, filter, Option, None, Some, if◌then◌else◌}
use Rattle.scim_schema.specs.declared.Unit.{Unit as AttributeUnit}
use Rattle.scim_schema.specs.Units.{leaf_at}
use Rattle.scim_cell.specs.Rows.{Row}
use Rattle.scim_cell.specs.SameValues.{with_values}
use Rattle.scim_filter_grammar.specs.Tree.{Tree}
use Rattle.scim_filter.specs.Truth.{truth_in_value}
use Rattle.scim_patch_values.specs.declared.positions.Position.{Position}
use Rattle.scim_patch_values.specs.Fields.{row_without}
use Rattle.scim_patch_values.specs.Matches.{kept, given_primary, marked, value_of, is_listed, is_any_match, set_at_match, replaced_at_match, cleared_at_match, added_at_matches, set_everywhere}
use Rattle.scim_patch_steps.specs.Changes.{StepChange, Keep, KeepMatches, KeepSubAttribute, Append, Replace, Clear, RemoveListed, AddToMatches, ReplaceMatches, RemoveMatches, AddAtMatches, SetAtMatches, ClearAtMatches, SetEverywhere, ClearEverywhere}

-- the positions; None if none of the values matches the filter
abbrev pub at_matches : Tree → List Row → List Position → Option (List Position)
at_matches t values positions = if is_any_match t values then Some positions else None

-- the values of a unit after a change, each as a `Position`; None if the path of the change has no target
abbrev pub row : AttributeUnit → StepChange → List Row → Option (List Position)
row u Keep values = Some (map kept values)
row u (KeepMatches t) values = Some (map kept values)
row u (KeepSubAttribute b) values = Some (map kept values)
row u (Append given) values = Some (map (marked u.attribute (given_primary u.attribute given)) (with_values u.attribute values given))
row u (Replace given) values = Some (map (marked u.attribute (given_primary u.attribute given)) (with_values u.attribute [] given))
row u Clear values = Some []
row u (RemoveListed texts) values = Some (map kept (filter (λ value. not (is_listed texts value)) values))
row u (AddToMatches t given) values = added_at_matches u t given values
row u (ReplaceMatches t given) values =
    at_matches t values (map (marked u.attribute (given_primary u.attribute (value_of u given ∷ []))) (with_values u.attribute [] (map (replaced_at_match t (value_of u given)) values)))
row u (RemoveMatches t) values = Some (map kept (filter (λ value. not (truth_in_value t value)) values))
row u (AddAtMatches t field) values = added_at_matches u t (field ∷ []) values
row u (SetAtMatches t field) values = at_matches t values (map (set_at_match t (field ∷ [])) values)
row u (ClearAtMatches t b) values = Some (map kept (map (cleared_at_match t b) values))
row u (SetEverywhere field) values = Some (set_everywhere u (field ∷ []) values)
row u (ClearEverywhere b) values = Some (map kept (map (row_without (leaf_at u.attribute b)) values))
