use Rattle.std.proofs.Common.{◌≡◌, drop}
use Rattle.std.specs.List.{list_any}
use denote.Enum.Bare.{sameb}
use Rattle.scim_schema.specs.contracts.Attribute.{the_type as the_attribute}
use Rattle.scim_cell.specs.Rows.{Row}
use Rattle.scim_body.proofs.required_attributes.has_attribute.Given as goal

-- those that are left decide
abbrev pub invariant-loop-row : goal.invariant-loop-row
invariant-loop-row l =
    list_any (λ (r : Row). sameb the_attribute r.unit.attribute l.attribute) (drop l.row-index l.rows)
    ≡ list_any (λ (r : Row). sameb the_attribute r.unit.attribute l.attribute) l.rows
