-- The number of positions of an attribute that have cells, defined by the map of cells.
use Rattle.std.specs.Prelude.{◌≡◌, ◌<◌, ◌≤◌, ◌↔◌, ℕ, false, IsSome}
use Rattle.std.specs.FinMap.{get}
use Rattle.scim_schema.specs.declared.Attribute.{Attribute}
use Rattle.scim_schema.specs.declared.Leaf.{Leaf}
use Rattle.scim_schema.specs.Characteristics.{is_multi_valued}
use Rattle.scim_cell.specs.Place.{place_at}
use Rattle.scim_cell.specs.Content.{Content}

-- the attribute has a cell at the position
abbrev pub HasCellAt : Content → Attribute → ℕ → Type 0
HasCellAt c a k = (l : Leaf) × (l.attribute ≡ a) × IsSome (get c.cells (place_at l k))

-- exactly the positions below n of the attribute have cells, and n is at most 1 if the attribute is
-- single-valued
pub record HasPositions (c : Content) (a : Attribute) (n : ℕ) : Type 0 where
  pub filled : (k : ℕ) → (k < n) ↔ HasCellAt c a k
  pub single : is_multi_valued a ≡ false → n ≤ 1
