-- The sort order of parts (RFC 7644 section 3.4.2.3): by sort key, then by id.
use Rattle.std.specs.Prelude.{ℕ, Bool, true, false, Option, None, Some, List}
use Rattle.std.specs.declared.cmp.Ordering.{Ordering}
use Rattle.std.specs.declared.cmp.Ordering.TheVariants.{Less, Equal, Greater}
use Rattle.std.specs.Ordering.{ordering_then, nat_cmp, bool_cmp}
use Rattle.std.specs.Cmp.Lexicographic.{slice_cmp}
use Rattle.scim_schema.specs.declared.Leaf.{Leaf}
use Rattle.scim_cell.specs.declared.atoms.Atom.{Atom}
use Rattle.scim_cell.specs.declared.atoms.Atom.TheVariants.{Text, Truth, Moment}
use Rattle.scim_cell.specs.Content.{Content}
use Rattle.scim_cell.specs.Rows.{rows}
use Rattle.scim_query.specs.Keys.{key_by}

-- the order of atoms: texts by bytes, false before true, moments by time; atoms of one leaf have one type
abbrev pub atom_cmp : Atom → Atom → Ordering
atom_cmp (Text a) (Text b) = slice_cmp nat_cmp a b
atom_cmp (Text a) _ = Less
atom_cmp (Truth a) (Text b) = Greater
atom_cmp (Truth a) (Truth b) = bool_cmp a b
atom_cmp (Truth a) (Moment b) = Less
atom_cmp (Moment a) (Moment b) = nat_cmp a b
atom_cmp (Moment a) _ = Greater

-- the ascending order of keys, where a part without a key comes last
abbrev pub ascending_cmp : Option Atom → Option Atom → Ordering
ascending_cmp (Some a) (Some b) = atom_cmp a b
ascending_cmp (Some a) None = Less
ascending_cmp None (Some b) = Greater
ascending_cmp None None = Equal

-- the order of keys in a direction, which is the reverse of the ascending order if descending
abbrev pub key_cmp : Bool → Option Atom → Option Atom → Ordering
key_cmp true a b = ascending_cmp b a
key_cmp false a b = ascending_cmp a b

-- the sort key and the id of a part
abbrev pub Rank : Type 0
Rank = Option Atom × List ℕ

-- the rank of a part: its sort key and its id
abbrev pub rank_of : Option Leaf → Content → Rank
rank_of sort_by p = (key_by sort_by (rows p), p.id)

-- the order of ranks: by key in the given direction, then by ascending id
abbrev pub rank_cmp : Bool → Rank → Rank → Ordering
rank_cmp descending a b = ordering_then (key_cmp descending a.0 b.0) (slice_cmp nat_cmp a.1 b.1)

-- the order of parts by a leaf in the given direction, then by ascending id
abbrev pub part_cmp : Option Leaf → Bool → Content → Content → Ordering
part_cmp sort_by descending p q = rank_cmp descending (rank_of sort_by p) (rank_of sort_by q)
