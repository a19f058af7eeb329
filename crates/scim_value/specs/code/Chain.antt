-- Checks cells one after another, in order of place.
use Rattle.std.specs.Prelude.{◌≡◌, ◌+◌, ◌≤◌, ◌⊎◌, true, Option, None, Some, List, [], ◌∷◌}
use Rattle.std.specs.declared.cmp.Ordering.TheVariants.{Less}
use Rattle.scim_schema.specs.declared.Kind.{Kind}
use Rattle.scim_schema.specs.Characteristics.{is_multi_valued}
use Rattle.scim_cell.specs.declared.places.Place.{Place}
use Rattle.scim_cell.specs.Place.{place_cmp}
use Rattle.scim_cell.specs.Content.{Entry, IsOfKind}

-- both places are in the same multi-valued attribute, and the position of `p` is at most one above the
-- position of `last`
abbrev pub GoesOn : Place → Place → Type 0
GoesOn last p = (is_multi_valued p.attribute ≡ true) × (last.attribute ≡ p.attribute) × (p.position ≤ last.position + 1)

-- a cell at the place `p` may come right after a cell at the place `last`, or be the first cell if `last` is
-- None
abbrev pub Follows : Option Place → Place → Type 0
Follows None p = p.position ≡ 0
Follows (Some last) p = (place_cmp last p ≡ Less) × ((p.position ≡ 0) ⊎ GoesOn last p)

-- each entry is valid for the kind and may come right after the previous entry
abbrev pub IsChain : Kind → Option Place → List Entry → Type 0
IsChain kind last [] = Unit {0}
IsChain kind last (e ∷ es) = IsOfKind kind e × Follows last e.0 × IsChain kind (Some e.0) es
