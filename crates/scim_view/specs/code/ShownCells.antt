-- The cells that a client sees and a reply shows.
use Rattle.std.specs.Prelude.{◌≡◌, true, false, not, ◌&&◌, List}
use Rattle.std.specs.List.{list_any}
use denote.Enum.Bare.{sameb}
use Rattle.scim_schema.specs.declared.Kind.{Kind}
use Rattle.scim_schema.specs.declared.Leaf.{Leaf}
use Rattle.scim_schema.specs.declared.Attribute.{Attribute}
use Rattle.scim_schema.specs.contracts.Attribute.{the_type as the_attribute}
use Rattle.scim_schema.specs.Table.{HasLeaf}
use Rattle.scim_cell.specs.Rows.{Row, Test}
use Rattle.scim_policy.specs.declared.rules.Decision.{Decision}
use Rattle.scim_view.specs.declared.projection.Wanted.{Wanted}
use Rattle.scim_view.specs.View.{may_be_seen}
use Rattle.scim_view.specs.Shown.{shows}

-- whether the decisions on reading make a leaf of a kind visible in a value, and the leaf is shown to a client that
-- wants these attributes
abbrev pub seen_and_shown : (Row → Leaf → Decision) → Kind → Wanted → Test
seen_and_shown decision kind w r l = may_be_seen decision kind r l && shows w kind l

-- the same, except in rows of these attributes
abbrev pub shown_except : List Attribute → (Row → Leaf → Decision) → Kind → Wanted → Test
shown_except unshown decision kind w r l = not (list_any (sameb the_attribute r.unit.attribute) unshown) && seen_and_shown decision kind w r l

-- no leaf of these attributes is shown, in resources of the kind
abbrev pub AreUnshown : Wanted → Kind → List Attribute → Type 0
AreUnshown w kind unshown = (l : Leaf) → HasLeaf kind l → list_any (sameb the_attribute l.attribute) unshown ≡ true → shows w kind l ≡ false
