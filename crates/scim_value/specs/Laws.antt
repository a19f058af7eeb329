-- Lemmas about all parts: the map of cells and the list of rows determine each other.
use Rattle.std.specs.Prelude.{◌≡◌, ℕ, List}
use Rattle.std.specs.FinMap.{get}
use Rattle.scim_schema.specs.declared.Kind.{Kind}
use Rattle.scim_schema.specs.declared.Leaf.{Leaf}
use Rattle.scim_cell.specs.Place.{place_at}
use Rattle.scim_cell.specs.Content.{Content, IsPart}
use Rattle.scim_cell.specs.Rows.{Row, rows, content, cell_at, AreSound}

-- the rows of a part are valid
abbrev pub PartsHaveSoundRows : Type 0
PartsHaveSoundRows = (c : Content) → IsPart c → AreSound c.kind (rows c)

-- a part that is made from valid rows has exactly those rows
abbrev pub SoundRowsMakeAPart : Type 0
SoundRowsMakeAPart = (kind : Kind) (id : List ℕ) (rs : List Row) → AreSound kind rs → IsPart (content kind id rs) × (rows (content kind id rs) ≡ rs)

-- parts with the same kind, id and rows are equal
abbrev pub RowsDetermineCells : Type 0
RowsDetermineCells = (c d : Content) → IsPart c → IsPart d → c.kind ≡ d.kind → c.id ≡ d.id → rows c ≡ rows d → c ≡ d

-- the atom at position k of a leaf is in the row with index k among the rows of the leaf's unit
abbrev pub CellsStandInRows : Type 0
CellsStandInRows = (c : Content) → IsPart c → (l : Leaf) (k : ℕ) → get c.cells (place_at l k) ≡ cell_at l k (rows c)
