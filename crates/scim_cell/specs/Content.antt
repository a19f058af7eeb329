-- The model of a part or a resource in contracts: a kind, an id and cells (RFC 7643 section 2).
use Rattle.std.specs.Prelude.{◌≡◌, ◌≤◌, ℕ, ◌+◌, ◌⊎◌, true, List, map, All, Any}
use Rattle.std.specs.List.Sorted.{IsPermutation}
use Rattle.std.specs.FinMap.{FinMap, entries, is_sorted}
use Rattle.scim_schema.specs.declared.Kind.{Kind}
use Rattle.scim_schema.specs.declared.characteristics.AttributeType.{AttributeType}
use Rattle.scim_schema.specs.declared.characteristics.AttributeType.TheVariants.{String, Boolean, DateTime, Reference, Binary}
use Rattle.scim_schema.specs.Table.{HasLeaf}
use Rattle.scim_schema.specs.Characteristics.{characteristics_of, is_multi_valued}
use Rattle.scim_text.specs.Moments.{last_moment}
use Rattle.scim_cell.specs.declared.places.Place.{Place}
use Rattle.scim_cell.specs.declared.cells.Cell.{Cell}
use Rattle.scim_cell.specs.declared.atoms.Atom.{Atom}
use Rattle.scim_cell.specs.declared.atoms.Atom.TheVariants.{Text, Truth, Moment}
use Rattle.scim_cell.specs.Place.{place_cmp, leaf_of, place_at}

-- a kind, an id and the cells, as a finite map from places to atoms; a place is a leaf and a position
pub record Content : Type 0 where
  pub kind : Kind
  pub id : List ℕ
  pub cells : FinMap place_cmp Atom

-- a place and the atom at this place
abbrev pub Entry : Type 0
Entry = Place × Atom

-- the place of a cell
abbrev pub place_of : Cell → Place
place_of c = place_at c.leaf c.position

-- the entry of a cell
abbrev pub entry_of : Cell → Entry
entry_of c = (place_of c, c.atom)

-- the entries of a list of cells
abbrev pub entries_of : List Cell → List Entry
entries_of cells = map entry_of cells

-- the atom has the type (RFC 7643 section 2.3)
abbrev pub HasType : AttributeType → Atom → Type 0
HasType Boolean (Truth b) = Unit {0}
HasType DateTime (Moment m) = m ≤ last_moment
HasType String (Text t) = Unit {0}
HasType Reference (Text t) = Unit {0}
HasType Binary (Text t) = Unit {0}
HasType _ _ = ⊥

-- the leaf of an entry belongs to the kind, and the atom has the type of the leaf
abbrev pub IsOfKind : Kind → Entry → Type 0
IsOfKind kind e = HasLeaf kind (leaf_of e.0) × HasType (characteristics_of kind (leaf_of e.0)).attribute_type e.1

-- the entries contain a cell of the same attribute as the place, at the previous position
abbrev pub HasOneBefore : List Entry → Place → Type 0
HasOneBefore es p = Any (λ f. (f.0.attribute ≡ p.attribute) × (f.0.position + 1 ≡ p.position)) es

-- the position of the place is 0, or its attribute is multi-valued and has a cell at the previous position
abbrev pub StandsInLine : List Entry → Place → Type 0
StandsInLine es p = (p.position ≡ 0) ⊎ ((is_multi_valued p.attribute ≡ true) × HasOneBefore es p)

-- entries that can be the cells of a part: each is valid for the kind, and positions run from 0 without a gap
pub record ArePartCells (kind : Kind) (es : List Entry) : Type 0 where
  pub of_kind : All (IsOfKind kind) es
  pub in_line : All (λ e. StandsInLine es e.0) es

-- entries that can be the cells of a part, in strictly ascending order of place
abbrev pub AreSortedPartCells : Kind → List Entry → Type 0
AreSortedPartCells kind es = (is_sorted place_cmp es ≡ true) × ArePartCells kind es

-- the invariant of parts: their cells are valid for the kind, and positions have no gaps
abbrev pub IsPart : Content → Type 0
IsPart c = ArePartCells c.kind (entries c.cells)

-- the entries, in any order, are the cells of some part of the kind
abbrev pub AreCellsOfAPart : Kind → List Entry → Type 0
AreCellsOfAPart kind es = (c : Content) × (c.kind ≡ kind) × IsPart c × IsPermutation es (entries c.cells)
