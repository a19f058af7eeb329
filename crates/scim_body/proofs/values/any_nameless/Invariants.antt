use Rattle.std.proofs.Common.{◌≡◌, drop}
use Rattle.std.specs.List.{list_any}
use Rattle.scim_cell.specs.SameValues.{is_nameless}
use Rattle.scim_body.proofs.values.any_nameless.Given as goal

-- those that are left decide
abbrev pub invariant-loop-value : goal.invariant-loop-value
invariant-loop-value l =
    list_any (is_nameless l.attribute) (drop l.value-index l.values)
    ≡ list_any (is_nameless l.attribute) l.values
