use Rattle.std.proofs.Common.{◌≡◌, ◌++◌, drop, option_map}
use Rattle.scim_body.specs.View.{items_view}
use Rattle.scim_body.specs.BodyNames.{items_list}
use Rattle.scim_body.specs.BodyValues.{collected}
use Rattle.scim_exchange.specs.SearchBodies.{text_item}
use Rattle.scim_exchange.specs.code.Views.{texts_in}
use Rattle.scim_exchange.proofs.search_bodies.texts_of.Given as goal

-- the texts that are read and those of the items that are left make the whole
abbrev pub invariant-loop-item : goal.invariant-loop-item
invariant-loop-item l =
    collected text_item (items_list (items_view l.items))
    ≡ option_map (λ more. texts_in l.texts ++ more) (collected text_item (items_list (items_view (drop l.item-index l.items))))
