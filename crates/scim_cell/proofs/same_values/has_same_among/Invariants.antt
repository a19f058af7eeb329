use Rattle.std.proofs.Common.{◌≡◌, drop}
use Rattle.std.specs.List.{list_any}
use Rattle.scim_cell.specs.SameValues.{is_same_value}
use Rattle.scim_cell.proofs.same_values.has_same_among.Given as goal

-- those that are left decide
abbrev pub invariant-loop-other : goal.invariant-loop-other
invariant-loop-other l =
    list_any (λ s. is_same_value l.attribute s l.value) (drop l.other-index l.values)
    ≡ list_any (λ s. is_same_value l.attribute s l.value) l.values
