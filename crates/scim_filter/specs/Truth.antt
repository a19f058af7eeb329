-- When a filter matches the cells of a part (RFC 7644 section 3.4.2.2).
use Rattle.std.specs.Prelude.{ℕ, Bool, true, false, not, ◌&&◌, ◌||◌, ◌==◌, List, [], ◌∷◌, take, drop, Option, Some, None, if◌then◌else◌}
use Rattle.std.specs.List.{list_any}
use Rattle.scim_schema.specs.declared.Attribute.{Attribute}
use Rattle.scim_schema.specs.declared.Leaf.{Leaf}
use Rattle.scim_schema.specs.Characteristics.{is_multi_valued}
use Rattle.scim_schema.specs.Units.{leaf_at, is_same_leaf}
use Rattle.scim_cell.specs.declared.atoms.Atom.{Atom}
use Rattle.scim_cell.specs.declared.rows.Field.{Field}
use Rattle.scim_cell.specs.Rows.{Row, attribute_rows}
use Rattle.scim_filter_grammar.specs.declared.tree.Operator.{Operator}
use Rattle.scim_filter_grammar.specs.declared.tree.Operator.TheVariants.{Eq, Ne}
use Rattle.scim_filter_grammar.specs.declared.tree.Literal.{Literal}
use Rattle.scim_filter_grammar.specs.declared.tree.Literal.TheVariants as literal
use Rattle.scim_filter_grammar.specs.declared.tree.Meant.{Meant}
use Rattle.scim_filter_grammar.specs.declared.tree.Meant.TheVariants as meant
use Rattle.scim_filter.specs.Relation.{stands}
use Rattle.scim_schema.specs.Characteristics.{is_case_exact}
use Rattle.scim_filter_grammar.specs.Types.{compared_leaf}
use Rattle.scim_filter_grammar.specs.Tree.{Tree, Or, And, Not, Present, Compare, Values}

-- whether a cell of the attribute passes the test
abbrev pub some_cell : (Field → Bool) → Attribute → List Row → Bool
some_cell passes a rs = list_any (λ (r : Row). list_any passes r.fields) (attribute_rows a rs)

-- whether a cell of the leaf has an atom that passes the test
abbrev pub some_atom : (Atom → Bool) → Leaf → List Row → Bool
some_atom passes leaf rs = some_cell (λ (f : Field). is_same_leaf f.leaf leaf && passes f.atom) leaf.attribute rs

-- whether `pr` is true: the named attribute or sub-attribute has a cell; for a complex attribute, one of its
-- sub-attributes has one
abbrev pub is_present : Meant → List Row → Bool
is_present meant.Nothing rs = false
is_present (meant.Attribute a) rs = some_cell (λ f. true) a rs
is_present (meant.SubAttribute a b) rs = some_atom (λ x. true) (leaf_at a b) rs

-- whether the operator is `ne` and there is no cell
abbrev pub is_unlike : Operator → Bool → Bool
is_unlike Ne present = not present
is_unlike _ present = false

-- whether a cell of the leaf satisfies the comparison, or the operator is `ne` and there is no leaf or no
-- cell of this leaf
abbrev pub leaf_compares : Option Leaf → Operator → Literal → List Row → Bool
leaf_compares None op x rs = is_unlike op false
leaf_compares (Some leaf) op x rs = is_unlike op (some_atom (λ a. true) leaf rs) || some_atom (λ a. stands (is_case_exact leaf) op a x) leaf rs

-- whether a comparison is true; a comparison with null tests whether there is a cell
abbrev pub compares : Meant → Operator → Literal → List Row → Bool
compares m Eq literal.Null rs = not (is_present m rs)
compares m Ne literal.Null rs = is_present m rs
compares m op x rs = leaf_compares (compared_leaf m) op x rs

-- whether some value of the attribute passes the test; a single-valued attribute is tested once, even if it
-- has no rows; false if the name isn't an attribute
abbrev pub some_position : (List Row → Bool) → Meant → List Row → Bool
some_position holds (meant.Attribute a) rs = if is_multi_valued a then list_any (λ (r : Row). holds (r ∷ [])) (attribute_rows a rs) else holds (attribute_rows a rs)
some_position holds _ rs = false

-- whether a filter matches the cells of these rows
abbrev pub truth : Tree → List Row → Bool
truth (Or a b) rs = truth a rs || truth b rs
truth (And a b) rs = truth a rs && truth b rs
truth (Not a) rs = not (truth a rs)
truth (Present path) rs = is_present path.meant rs
truth (Compare path op x) rs = compares path.meant op x rs
truth (Values path inner) rs = some_position (truth inner) path.meant rs

-- the rows with the value of an attribute at a position, counted from 0; a single-valued attribute has only
-- position 0
abbrev pub rows_at : Meant → ℕ → List Row → List Row
rows_at (meant.Attribute a) k rs = if is_multi_valued a then take 1 (drop k (attribute_rows a rs)) else if k == 0 then attribute_rows a rs else []
rows_at _ k rs = []

-- whether the filter in the brackets of a value path matches the value at a position; false for any other
-- filter
abbrev pub truth_at : Tree → ℕ → List Row → Bool
truth_at (Values path inner) k rs = truth inner (rows_at path.meant k rs)
truth_at _ k rs = false

-- whether the filter in the brackets of a value path matches one value; false for any other filter
abbrev pub truth_in_value : Tree → Row → Bool
truth_in_value (Values path inner) r = truth inner (r ∷ [])
truth_in_value _ r = false
