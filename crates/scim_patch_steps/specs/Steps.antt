-- The outcome of a step: the first fault, or the values after the step (RFC 7644 sections 3.5.2 and 3.12).
use Rattle.std.specs.Prelude.{Bool, false, ◌&&◌, ◌||◌, ◌==◌, nat_lt, List, length, map, filter, Option, None, Some, Result, Ok, Err, if◌then◌else◌}
use Rattle.std.specs.List.{list_any, count_by}
use Rattle.std.specs.Global.{Vec}
use denote.Enum.Bare.{sameb}
use Rattle.scim_schema.specs.declared.limits.TheConstants.{MOST_VALUES}
use Rattle.scim_schema.specs.declared.Kind.{Kind}
use Rattle.scim_schema.specs.declared.Attribute.{Attribute}
use Rattle.scim_schema.specs.declared.Leaf.{Leaf}
use Rattle.scim_schema.specs.declared.Unit.{Unit as AttributeUnit}
use Rattle.scim_schema.specs.declared.characteristics.Mutability.{Mutability}
use Rattle.scim_schema.specs.declared.characteristics.Mutability.TheVariants.{Immutable, ReadOnly}
use Rattle.scim_schema.specs.contracts.characteristics.Mutability.{the_type as the_mutability}
use Rattle.scim_schema.specs.Characteristics.{characteristics_of, characteristics_at}
use Rattle.scim_schema.specs.Mutability.{is_fixed}
use Rattle.scim_schema.specs.Units.{leaf_at}
use Rattle.scim_cell.specs.Rows.{Row, has_fields}
use Rattle.scim_cell.specs.SameValues.{is_members, is_nameless}
use Rattle.scim_patch_values.specs.declared.positions.Position.{Position}
use Rattle.scim_patch_values.specs.Fields.{demoted}
use Rattle.scim_patch_values.specs.Matches.{given_primary, is_any_match}
use Rattle.scim_patch_steps.specs.declared.steps.StepFault.{StepFault}
use Rattle.scim_patch_steps.specs.declared.steps.StepFault.TheVariants as fault
use Rattle.scim_patch_steps.specs.Changes.{StepChange, KeepMatches, KeepSubAttribute, Append, Replace, Clear, AddToMatches, AddAtMatches, SetAtMatches, ClearAtMatches, SetEverywhere, ClearEverywhere}
use Rattle.scim_patch_steps.specs.Table.{row}

-- ---- the changes that no client may make

-- whether the mutability is immutable or readOnly, so that existing values can't be changed (RFC 7643 section
-- 2.2)
abbrev pub is_final : Mutability → Bool
is_final m = sameb the_mutability m Immutable || sameb the_mutability m ReadOnly

-- whether a leaf can't be changed in an existing value
abbrev pub is_unchangeable : Kind → Leaf → Bool
is_unchangeable kind l = is_final (characteristics_of kind l).mutability

-- whether the kind requires the unit (RFC 7643 section 2.2)
abbrev pub is_required : Kind → AttributeUnit → Bool
is_required kind u = (characteristics_at kind u.attribute u.sub_attribute).required

-- whether a change would clear a required unit, change an immutable or readOnly sub-attribute, or add
-- something to an existing member of a group
abbrev pub is_barred : Kind → AttributeUnit → StepChange → List Row → Bool
is_barred kind u Clear values = is_required kind u
is_barred kind u (KeepMatches t) values = is_members u.attribute && is_any_match t values
is_barred kind u (KeepSubAttribute b) values = is_unchangeable kind (leaf_at u.attribute b)
is_barred kind u (AddToMatches t given) values = is_members u.attribute && is_any_match t values
is_barred kind u (AddAtMatches t field) values = is_unchangeable kind field.leaf
is_barred kind u (SetAtMatches t field) values = is_unchangeable kind field.leaf
is_barred kind u (ClearAtMatches t b) values = is_unchangeable kind (leaf_at u.attribute b)
is_barred kind u (SetEverywhere field) values = is_unchangeable kind field.leaf
is_barred kind u (ClearEverywhere b) values = is_unchangeable kind (leaf_at u.attribute b)
is_barred kind u _ values = false

-- whether no client may make a change: the unit is readOnly, or the change is barred (`is_barred`)
abbrev pub is_forbidden : Kind → AttributeUnit → StepChange → List Row → Bool
is_forbidden kind u change values = is_fixed kind u || is_barred kind u change values

-- ---- the results that are refused

-- whether two different values of `given` are marked as primary (RFC 7643 section 2.4)
abbrev pub are_two_primary : Attribute → List Row → Bool
are_two_primary a given = nat_lt 1 (length (given_primary a given))

-- whether a change sets or adds two different values that are marked as primary
abbrev pub gives_two_primary : Attribute → StepChange → Bool
gives_two_primary a (Append given) = are_two_primary a given
gives_two_primary a (Replace given) = are_two_primary a given
gives_two_primary a _ = false

-- whether the values after a step are refused: more than one value is chosen as primary, a member has no
-- `value`, or there are more than 10,000 values
abbrev pub are_refused : Attribute → List Position → Bool
are_refused a ps =
    nat_lt 1 (count_by (λ (p : Position). p.chosen) ps) || list_any (λ (p : Position). is_nameless a p.value) ps || nat_lt MOST_VALUES (length ps)

-- ---- the values after a step

-- the value of a position, with `primary` set to false unless the step chose it
abbrev pub beside_chosen : Position → Row
beside_chosen p = if p.chosen then p.value else demoted p.value

-- the values of the positions; if the step chose one value as primary, `primary` is set to false in the other
-- values
abbrev pub primary_settled : List Position → List Row
primary_settled ps =
    if count_by (λ (p : Position). p.chosen) ps == 1 then map beside_chosen ps else map (λ (p : Position). p.value) ps

-- the values of the positions, or the fault `Value` if they are refused
abbrev pub checked : Attribute → List Position → Result (List Row) StepFault
checked a ps = if are_refused a ps then Err fault.Value else Ok (primary_settled ps)

-- the values after a step, without values that have no fields; if the step chose one value as primary,
-- `primary` is set to false in the other values; the fault `NoTarget` if the path has no target, or the fault
-- `Value` if the values are refused
abbrev pub settled : Attribute → Option (List Position) → Result (List Row) StepFault
settled a None = Err fault.NoTarget
settled a (Some ps) = checked a (filter (λ (p : Position). has_fields p.value) ps)

-- the values after a permitted change; the error `Value` if it gives two primary values, else the result of
-- `settled`
abbrev pub judged : Attribute → StepChange → Option (List Position) → Result (List Row) StepFault
judged a change found = if gives_two_primary a change then Err fault.Value else settled a found

-- the values of the unit after the change, or the fault for which the change is refused
abbrev pub after : Kind → AttributeUnit → StepChange → List Row → Result (List Row) StepFault
after kind u change values = if is_forbidden kind u change values then Err fault.Mutability else judged u.attribute change (row u change values)

-- the values or the fault that a result in code represents
abbrev pub rows_answered : Result (Vec Row) StepFault → Result (List Row) StepFault
rows_answered (Ok values) = Ok values.items
rows_answered (Err e) = Err e
