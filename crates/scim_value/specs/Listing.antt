-- The list of the cells of a part, attribute by attribute.
use Rattle.std.specs.Prelude.{◌≡◌, ℕ, ◌+◌, Option, None, Some, List, [], ◌∷◌, ◌++◌, if◌then◌else◌}
use Rattle.std.specs.List.{flat_map}
use Rattle.std.specs.FinMap.{entries}
use Rattle.scim_schema.specs.declared.Attribute.{Attribute}
use Rattle.scim_schema.specs.declared.Leaf.{Leaf}
use Rattle.scim_schema.specs.Table.{attributes, leaves_with}
use Rattle.scim_schema.specs.Characteristics.{is_multi_valued}
use Rattle.scim_schema.specs.Units.{leaf_at, whole}
use Rattle.scim_cell.specs.declared.atoms.Atom.{Atom}
use Rattle.scim_cell.specs.Place.{place_at, sub_attributes_by_place}
use Rattle.scim_cell.specs.Content.{Content, Entry, IsPart}
use Rattle.scim_cell.specs.Rows.{Row, rows, values, atom_in, cell_at}

-- the cell of a leaf at a position, or no cell if there is no atom
abbrev pub cell_with : Leaf → ℕ → Option Atom → List Entry
cell_with l k None = []
cell_with l k (Some a) = (place_at l k, a) ∷ []

-- the cells of the value at a position of a multi-valued attribute
abbrev pub value_cells : Attribute → ℕ → Row → List Entry
value_cells a k r = flat_map (λ b. cell_with (leaf_at a b) k (atom_in (leaf_at a b) r.fields)) (sub_attributes_by_place a)

-- the cells of consecutive values of a multi-valued attribute; the first value is at position `k`
abbrev pub values_cells : Attribute → ℕ → List Row → List Entry
values_cells a k [] = []
values_cells a k (r ∷ rs) = value_cells a k r ++ values_cells a (k + 1) rs

-- the cells of a single-valued attribute
abbrev pub single_cells : Attribute → List Row → List Entry
single_cells a rs = flat_map (λ l. cell_with l 0 (cell_at l 0 rs)) (leaves_with a (sub_attributes_by_place a))

-- the cells of an attribute
abbrev pub attribute_cells : List Row → Attribute → List Entry
attribute_cells rs a = if is_multi_valued a then values_cells a 0 (values (whole a) rs) else single_cells a rs

-- in order of place, the cells of a part are listed attribute by attribute, in the order of `attributes`
abbrev pub CellsAreListed : Type 0
CellsAreListed = (c : Content) → IsPart c → entries c.cells ≡ flat_map (attribute_cells (rows c)) (attributes c.kind)
