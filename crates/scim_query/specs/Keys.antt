-- The key by which a part is sorted (RFC 7644 section 3.4.2.3).
use Rattle.std.specs.Prelude.{Option, None, Some, List, ◌++◌, filter, slice_get}
use Rattle.std.specs.Option.{option_map}
use Rattle.scim_schema.specs.declared.Leaf.{Leaf}
use Rattle.scim_schema.specs.Characteristics.{is_case_exact}
use Rattle.scim_schema.specs.Units.{unit_of}
use Rattle.scim_cell.specs.declared.atoms.Atom.{Atom}
use Rattle.scim_cell.specs.declared.atoms.Atom.TheVariants.{Text}
use Rattle.scim_cell.specs.Rows.{Row, values, atom_in, is_primary}
use Rattle.scim_filter.specs.Relation.{cased}

-- the value by which a part is sorted: the first that is marked as primary, or else the first
abbrev pub sorting_value : List Row → Option Row
sorting_value vs = slice_get (filter is_primary vs ++ vs) 0

-- the atom at a leaf of a value; None if there is no value or it has no atom there
abbrev pub atom_of : Leaf → Option Row → Option Atom
atom_of l None = None
atom_of l (Some r) = atom_in l r.fields

-- an atom in the form used for comparison: a text is case-folded unless its leaf is caseExact
-- (RFC 7643 section 2.2)
abbrev pub compared : Leaf → Atom → Atom
compared l (Text t) = Text (cased (is_case_exact l) t)
compared l a = a

-- the sort key at a leaf for a part with these rows; a single-valued attribute counts as one value
abbrev pub sort_key : Leaf → List Row → Option Atom
sort_key l rs = option_map (compared l) (atom_of l (sorting_value (values (unit_of l) rs)))

-- the sort key at a leaf for a part with these rows; None if there is no leaf
abbrev pub key_by : Option Leaf → List Row → Option Atom
key_by None rs = None
key_by (Some l) rs = sort_key l rs
