use Rattle.std.proofs.Common.{◌≡◌, drop}
use Rattle.std.specs.List.{list_any}
use Rattle.scim_body.specs.View.{items_view}
use Rattle.scim_body.specs.BodyNames.{items_list, value_clashes}
use Rattle.scim_body.proofs.repeated_keys.any_clashes.Given as goal

-- those that are left decide
abbrev pub invariant-loop-value : goal.invariant-loop-value
invariant-loop-value l =
    list_any (value_clashes l.attribute) (items_list (items_view (drop l.value-index l.values)))
    ≡ list_any (value_clashes l.attribute) (items_list (items_view l.values))
