-- Rows: the cells of a part, grouped by value.
-- The specifications of policies, views, searches and changes describe a part by its rows.
use Rattle.std.specs.Prelude.{◌≡◌, ◌≤◌, ◌<◌, ◌⊎◌, length, Bool, true, false, ◌&&◌, not, eqb, ℕ, zero, suc, ◌+◌, Option, None, Some, List, [], ◌∷◌, ◌++◌, map, filter, All, AllPairs, if◌then◌else◌}
use Rattle.std.specs.List.{list_any}
use Rattle.std.specs.Ordering.{is_lt, is_eq, is_gt}
use denote.Enum.Bare.{sameb}
use Rattle.std.specs.FinMap.{entries, from_sorted}
use Rattle.scim_schema.specs.declared.Kind.{Kind}
use Rattle.scim_schema.specs.declared.Attribute.{Attribute}
use Rattle.scim_schema.specs.declared.Leaf.{Leaf}
use Rattle.scim_schema.specs.declared.Unit.{Unit as AttributeUnit}
use Rattle.scim_schema.specs.contracts.Attribute.{the_type as the_attribute}
use Rattle.scim_schema.specs.Table.{HasLeaf}
use Rattle.scim_schema.specs.Characteristics.{characteristics_of, is_multi_valued}
use Rattle.scim_schema.specs.declared.SubAttribute.TheVariants.{Primary}
use Rattle.scim_schema.specs.Units.{whole, unit_of, leaf_at, is_same_leaf}
use Rattle.scim_cell.specs.declared.places.Place.{Place}
use Rattle.scim_cell.specs.declared.atoms.Atom.{Atom}
use Rattle.scim_cell.specs.declared.atoms.Atom.TheVariants.{Truth}
use Rattle.scim_cell.specs.declared.rows.Field.{Field}
use Rattle.scim_cell.specs.Place.{unit_cmp, leaf_of, place_at, sub_attribute_number}
use Rattle.scim_cell.specs.Content.{Content, Entry, HasType}

-- one value of a unit, with its fields in order of sub-attribute; it has one field if the unit is a leaf
pub record Row : Type 0 where
  pub unit : AttributeUnit
  pub fields : List Field

-- a test that selects fields by their row and leaf
abbrev pub Test : Type 0
Test = Row → Leaf → Bool

-- a test of leaves, whatever the row
abbrev pub by_leaf : (Leaf → Bool) → Test
by_leaf keep r l = keep l

-- the unit of a cell at a place
abbrev pub unit_at : Place → AttributeUnit
unit_at p = unit_of (leaf_of p)

-- a cell without its position
abbrev pub field_of : Entry → Field
field_of e = record { leaf = leaf_of e.0; atom = e.1 }

-- whether two cells belong to the same value of a multi-valued attribute
unfoldable pub goes_with : Place → Place → Bool
goes_with p q = is_multi_valued p.attribute && (sameb the_attribute p.attribute q.attribute && eqb p.position q.position)

-- whether a cell belongs to the same value as the first of the cells after it
abbrev pub is_led : Entry → List Entry → Bool
is_led e [] = false
is_led e (f ∷ es) = goes_with e.0 f.0

-- adds a cell at the front: as the first field of the first row if the flag is true and there is a row,
-- otherwise as a new first row
abbrev pub led : Bool → Entry → List Row → List Row
led true e (r ∷ rs) = record { unit = unit_at e.0; fields = field_of e ∷ r.fields } ∷ rs
led _ e rs = record { unit = unit_at e.0; fields = field_of e ∷ [] } ∷ rs

-- groups cells, which are in order of place, into rows
abbrev pub rows_of : List Entry → List Row
rows_of [] = []
rows_of (e ∷ es) = led (is_led e es) e (rows_of es)

-- the rows of a part, in order of unit; the position of a cell is the index of its row among all rows of the
-- same unit
abbrev pub rows : Content → List Row
rows c = rows_of (entries c.cells)

-- the position of a row of the unit `u`, given the unit and the position of the previous row, or None if the
-- row is the first
abbrev pub next_position : Option (AttributeUnit × ℕ) → AttributeUnit → ℕ
next_position None u = 0
next_position (Some last) u = if sameb the_attribute last.0.attribute u.attribute && is_multi_valued u.attribute then last.1 + 1 else 0

-- the cells of the rows, each at the position of its row; `last` is the unit and the position of the row
-- before them, or None
abbrev pub numbered : Option (AttributeUnit × ℕ) → List Row → List Entry
numbered last [] = []
numbered last (r ∷ rs) =
    map (λ (f : Field). (place_at f.leaf (next_position last r.unit), f.atom)) r.fields ++ numbered (Some (r.unit, next_position last r.unit)) rs

-- the part with this kind, this id and these rows
abbrev pub content : Kind → List ℕ → List Row → Content
content kind id rs = record { kind = kind; id = id; cells = from_sorted (numbered None rs) }

-- the rows of a unit, which are its values in order of position
abbrev pub values : AttributeUnit → List Row → List Row
values u rs = filter (λ (r : Row). is_eq (unit_cmp r.unit u)) rs

-- the rows of an attribute, in order of unit
abbrev pub attribute_rows : Attribute → List Row → List Row
attribute_rows a rs = filter (λ (r : Row). sameb the_attribute r.unit.attribute a) rs

-- the rows `rs`, with the values of the unit `u` replaced by `vs`
abbrev pub put_values : AttributeUnit → List Row → List Row → List Row
put_values u vs rs = filter (λ (r : Row). is_lt (unit_cmp r.unit u)) rs ++ (vs ++ filter (λ (r : Row). is_gt (unit_cmp r.unit u)) rs)

-- the number of values of a multi-valued attribute; for a single-valued attribute, 1 if it has a cell, else 0
abbrev pub positions : Attribute → List Row → ℕ
positions a rs = if is_multi_valued a then length (values (whole a) rs) else (if list_any (λ (r : Row). sameb the_attribute r.unit.attribute a) rs then 1 else 0)

-- the atom of a leaf among the fields of one value, or None
abbrev pub atom_in : Leaf → List Field → Option Atom
atom_in l [] = None
atom_in l (f ∷ fs) = by (is_same_leaf f.leaf l) f.atom (atom_in l fs)
  where
    by : Bool → Atom → Option Atom → Option Atom
    by true a o = Some a
    by false a o = o

-- whether the option contains the Boolean true
abbrev pub is_truth : Option Atom → Bool
is_truth (Some (Truth b)) = b
is_truth _ = false

-- whether a value is marked as the primary one (RFC 7643 section 2.4)
abbrev pub is_primary : Row → Bool
is_primary r = is_truth (atom_in (leaf_at r.unit.attribute Primary) r.fields)

-- the atom of a leaf in the value at index k, or None
abbrev pub atom_at : Leaf → ℕ → List Row → Option Atom
atom_at l k [] = None
atom_at l zero (r ∷ rs) = atom_in l r.fields
atom_at l (suc k) (r ∷ rs) = atom_at l k rs

-- the atom at a position of a leaf, or None
abbrev pub cell_at : Leaf → ℕ → List Row → Option Atom
cell_at l k rs = atom_at l k (values (unit_of l) rs)

-- whether there are no fields
abbrev pub is_empty : List Field → Bool
is_empty [] = true
is_empty (f ∷ fs) = false

-- whether a row has a field
abbrev pub has_fields : Row → Bool
has_fields r = not (is_empty r.fields)

-- a row with only the fields that a test keeps
abbrev pub restricted_row : Test → Row → Row
restricted_row keeps r = record { unit = r.unit; fields = filter (λ (f : Field). keeps r f.leaf) r.fields }

-- rows with only the fields that a test keeps, without the rows that become empty, so that positions have no
-- gaps
abbrev pub restricted : Test → List Row → List Row
restricted keeps rs = filter has_fields (map (restricted_row keeps) rs)

-- a valid field: it belongs to the unit and the kind, and its atom has the type of its leaf
abbrev pub IsSoundField : Kind → AttributeUnit → Field → Type 0
IsSoundField kind u f = (unit_of f.leaf ≡ u) × HasLeaf kind f.leaf × HasType (characteristics_of kind f.leaf).attribute_type f.atom

-- a valid row: its fields are valid and in order of sub-attribute, without duplicates
pub record IsSoundRow (kind : Kind) (r : Row) : Type 0 where
  pub own : All (IsSoundField kind r.unit) r.fields
  pub in_order : AllPairs (λ f g. sub_attribute_number f.leaf.sub_attribute < sub_attribute_number g.leaf.sub_attribute) r.fields

-- a row of the unit `u` may come before a row of the unit `v`
abbrev pub Precedes : AttributeUnit → AttributeUnit → Type 0
Precedes u v = (is_gt (unit_cmp u v) ≡ false) × (is_eq (unit_cmp u v) ≡ true → is_multi_valued u.attribute ≡ true)

-- valid rows of a part: each is valid and has a field, they are in order of unit, and a unit that isn't
-- multi-valued has at most one row
pub record AreSound (kind : Kind) (rs : List Row) : Type 0 where
  pub full : All (λ r. has_fields r ≡ true) rs
  pub own : All (IsSoundRow kind) rs
  pub in_order : AllPairs (λ r s. Precedes r.unit s.unit) rs

-- a valid row of the unit, with at least one field
abbrev pub IsValue : Kind → AttributeUnit → Row → Type 0
IsValue kind u r = (r.unit ≡ u) × (has_fields r ≡ true) × IsSoundRow kind r

-- rows that may be put into a part as the values of a unit
pub record AreValues (kind : Kind) (u : AttributeUnit) (vs : List Row) : Type 0 where
  pub few : (is_multi_valued u.attribute ≡ true) ⊎ (length vs ≤ 1)
  pub own : All (IsValue kind u) vs
