-- Parts with cells changed.
use Rattle.std.specs.Prelude.{ℕ, List}
use Rattle.std.specs.FinMap.{entries, insert, remove}
use Rattle.scim_schema.specs.declared.Leaf.{Leaf}
use Rattle.scim_schema.specs.declared.Unit.{Unit as AttributeUnit}
use Rattle.scim_cell.specs.declared.atoms.Atom.{Atom}
use Rattle.scim_cell.specs.Place.{place_at}
use Rattle.scim_cell.specs.Content.{Content}
use Rattle.scim_cell.specs.Rows.{Row, Test, rows_of, rows, content, restricted, put_values}

-- a part with this atom at a position of a leaf, in place of any atom there
abbrev pub with_cell : Leaf → ℕ → Atom → Content → Content
with_cell l k atom c = record c { cells = insert c.cells (place_at l k) atom }

-- a part without the cell at a position of a leaf; the remaining rows are numbered again, so that positions
-- have no gaps
abbrev pub without_cell : Leaf → ℕ → Content → Content
without_cell l k c = content c.kind c.id (rows_of (entries (remove c.cells (place_at l k))))

-- a part with only the fields that a test keeps; values that lose all fields are removed, so that positions
-- have no gaps
abbrev pub restricted_part : Test → Content → Content
restricted_part keeps c = content c.kind c.id (restricted keeps (rows c))

-- the part `c`, with the values of the unit `u` replaced by `vs`
abbrev pub with_values : AttributeUnit → List Row → Content → Content
with_values u vs c = content c.kind c.id (put_values u vs (rows c))
