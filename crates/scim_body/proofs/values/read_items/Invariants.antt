use Rattle.std.proofs.Common.{◌≡◌, ◌++◌, drop, option_map}
use Rattle.scim_body.specs.View.{items_view}
use Rattle.scim_body.specs.BodyNames.{items_list}
use Rattle.scim_body.specs.BodyValues.{collected, value_of}
use Rattle.scim_body.proofs.values.read_items.Given as goal

-- the values that are read and those of the items that are left make the whole
abbrev pub invariant-loop-item : goal.invariant-loop-item
invariant-loop-item l =
    collected (value_of l.kind l.attribute) (items_list (items_view l.items))
    ≡ option_map (λ more. l.values.items ++ more) (collected (value_of l.kind l.attribute) (items_list (items_view (drop l.item-index l.items))))
