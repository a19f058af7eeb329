-- The states of the visitors that copy resources.
use Rattle.std.specs.Prelude.{◌≡◌, List, [], ◌∷◌, ◌++◌}
use Rattle.scim_cell.specs.Content.{Content}
use Rattle.scim_shelf.specs.declared.copies.Copies.{Copies}
use Rattle.scim_shelf.specs.declared.copies.Collecting.{Collecting}
use Rattle.scim_shelf.specs.Stores.{HasPlace, keep}
use Rattle.scim_shelf.specs.Collections.{IsCollection}

-- The visitor has appended the resource to its list.
abbrev pub Takes : Copies → Content → Copies → Type 0
Takes old c new = new.resources.items ≡ old.resources.items ++ c ∷ []

-- The visitor has stored the resource in its collection, provided that `HasPlace` holds for it.
abbrev pub Keeps : Collecting → Content → Collecting → Type 0
Keeps old c new = (cs : List Content) → IsCollection cs old.collection → HasPlace cs c → IsCollection (keep c cs) new.collection
