-- When a cell's atom satisfies a comparison operator with a literal (RFC 7644 section 3.4.2.2, table 3).
use Rattle.std.specs.Prelude.{ℕ, pos, Bool, true, false, not, ◌||◌, nat_eq, List, [], ◌∷◌, Option, Some, None}
use Rattle.std.specs.List.{starts_with, ends_with}
use Rattle.std.specs.declared.cmp.Ordering.{Ordering}
use Rattle.std.specs.Ordering.{ordering_then, nat_cmp, int_cmp, bool_cmp, is_eq, is_lt, is_gt, is_le, is_ge}
use Rattle.std.specs.Cmp.Lexicographic.{slice_cmp}
use Rattle.scim_text.specs.declared.moment_readings.Reading.{Reading}
use Rattle.scim_text.specs.Names.{folded}
use Rattle.scim_cell.specs.declared.atoms.Atom.{Atom}
use Rattle.scim_cell.specs.declared.atoms.Atom.TheVariants as atom
use Rattle.scim_filter_grammar.specs.declared.tree.Literal.{Literal}
use Rattle.scim_filter_grammar.specs.declared.tree.Literal.TheVariants as literal
use Rattle.scim_filter_grammar.specs.declared.tree.Operator.{Operator}
use Rattle.scim_filter_grammar.specs.declared.tree.Operator.TheVariants.{Eq, Ne, Co, Sw, Ew, Gt, Ge, Lt, Le}
use Rattle.scim_text.specs.MomentIn.{moment_in}
use Rattle.scim_filter_grammar.specs.Types.{truth_in}

-- whether the part occurs in the text
abbrev pub contains_text : List ℕ → List ℕ → Bool
contains_text [] part = starts_with nat_eq [] part
contains_text (b ∷ bs) part = starts_with nat_eq (b ∷ bs) part || contains_text bs part

-- whether two values that compare as the ordering satisfy the operator; false for `co`, `sw` and `ew`
abbrev pub is_ordered : Operator → Ordering → Bool
is_ordered Eq order = is_eq order
is_ordered Ne order = not (is_eq order)
is_ordered Gt order = is_gt order
is_ordered Ge order = is_ge order
is_ordered Lt order = is_lt order
is_ordered Le order = is_le order
is_ordered _ order = false

-- whether two texts satisfy the operator, compared by their bytes
abbrev pub text_stands : Operator → List ℕ → List ℕ → Bool
text_stands Co a b = contains_text a b
text_stands Sw a b = starts_with nat_eq a b
text_stands Ew a b = ends_with nat_eq a b
text_stands op a b = is_ordered op (slice_cmp nat_cmp a b)

-- the text to compare: unchanged if case matters, else case-folded
abbrev pub cased : Bool → List ℕ → List ℕ
cased true text = text
cased false text = folded text

-- whether two booleans are equal
abbrev pub same_truth : Bool → Bool → Bool
same_truth true b = b
same_truth false b = not b

-- whether two booleans satisfy the operator; false if the second is None, or for operators other than `eq`
-- and `ne`
abbrev pub truth_stands : Operator → Bool → Option Bool → Bool
truth_stands Eq a (Some b) = same_truth a b
truth_stands Ne a (Some b) = not (same_truth a b)
truth_stands _ _ _ = false

-- the order of a moment and the date and time in a literal: by second; in the same second, the literal is
-- later if it has a fraction of a second
abbrev pub moment_cmp : ℕ → Reading → Ordering
moment_cmp m r = ordering_then (int_cmp (pos m) r.second) (bool_cmp false r.later)

-- whether a moment satisfies the operator with the date and time in a literal; false if the literal has none
abbrev pub moment_stands : Operator → ℕ → Option Reading → Bool
moment_stands op m (Some r) = is_ordered op (moment_cmp m r)
moment_stands op m None = false

-- whether an atom satisfies the operator with a literal; texts are compared as they are if `exact`, else
-- case-folded; false if the literal doesn't suit the atom's type
abbrev pub stands : Bool → Operator → Atom → Literal → Bool
stands exact op (atom.Text a) (literal.Text b) = text_stands op (cased exact a) (cased exact b)
stands exact op (atom.Truth a) (literal.Truth b) = truth_stands op a (Some b)
stands exact op (atom.Truth a) (literal.Text b) = truth_stands op a (truth_in b)
stands exact op (atom.Moment m) (literal.Text b) = moment_stands op m (moment_in b)
stands _ _ _ _ = false
