-- How often a change of a unit looks at the unit's values, and the sizes of values.
use Rattle.std.specs.Prelude.{ℕ, ◌+◌, ◌*◌, ◌/◌, min, List, length}
use Rattle.std.specs.List.{sum_by}
use Rattle.scim_cell.specs.declared.atoms.Atom.{Atom}
use Rattle.scim_cell.specs.declared.atoms.Atom.TheVariants as atom
use Rattle.scim_cell.specs.declared.rows.Field.{Field}
use Rattle.scim_cell.specs.Rows.{Row}
use Rattle.scim_filter_grammar.specs.declared.tree.Literal.{Literal}
use Rattle.scim_filter_grammar.specs.declared.tree.Literal.TheVariants as literal
use Rattle.scim_filter_grammar.specs.Tree.{Tree, Or, And, Not, Present, Compare, Values}
use Rattle.scim_patch_steps.specs.declared.work.TheConstants.{BLOCK, FEW, SET}
use Rattle.scim_patch_steps.specs.Changes.{StepChange, KeepMatches, Append, Replace, RemoveListed, AddToMatches, ReplaceMatches, RemoveMatches, AddAtMatches, SetAtMatches, ClearAtMatches, SetEverywhere}

-- ---- sizes

-- the number of whole blocks of 64 bytes in an atom; 0 unless it is a text
abbrev pub atom_blocks : Atom → ℕ
atom_blocks (atom.Text t) = length t / BLOCK
atom_blocks _ = 0

-- the number of blocks in the texts of the fields
abbrev pub blocks : List Field → ℕ
blocks fs = sum_by (λ f. atom_blocks f.atom) fs

-- the size of a value: 1 and the number of blocks in its texts
abbrev pub size : Row → ℕ
size value = 1 + blocks value.fields

-- the size of values: the sum of their sizes
abbrev pub size_of : List Row → ℕ
size_of values = sum_by size values

-- the number of whole blocks of 64 bytes in a literal; 0 unless it is a string
abbrev pub literal_blocks : Literal → ℕ
literal_blocks (literal.Text t) = length t / BLOCK
literal_blocks _ = 0

-- ---- looks

-- how often a filter looks at a value: once for each `not`, `pr` and comparison, and once for each block of a
-- literal
abbrev pub tests : Tree → ℕ
tests (Or p q) = tests p + tests q
tests (And p q) = tests p + tests q
tests (Not p) = 1 + tests p
tests (Present path) = 1
tests (Compare path op x) = 1 + literal_blocks x
tests (Values path inner) = tests inner

-- how often a change looks at each value of its unit: once to move it; as often as its filter does, twice if the
-- matches are set or replaced; SET times for each field that it sets; once for each given value that it compares,
-- but at most FEW times
abbrev pub looks : StepChange → ℕ
looks (KeepMatches t) = 1 + tests t
looks (Append given) = 1 + min (length given) FEW
looks (AddToMatches t fs) = 1 + length fs * SET + 2 * tests t
looks (RemoveListed texts) = 2
looks (ReplaceMatches t fs) = 1 + FEW + 2 * tests t
looks (RemoveMatches t) = 1 + tests t
looks (AddAtMatches t f) = 1 + SET + 2 * tests t
looks (SetAtMatches t f) = 1 + SET + 2 * tests t
looks (ClearAtMatches t b) = 1 + tests t
looks (SetEverywhere f) = 1 + SET
looks _ = 1

-- ---- what a change adds to its unit

-- the size of the values that a change may add to its unit, without the fields that it sets
abbrev pub given : StepChange → ℕ
given (Append vs) = size_of vs
given (Replace vs) = size_of vs
given (AddToMatches t fs) = 1 + tests t
given (AddAtMatches t f) = 1 + tests t
given (SetEverywhere f) = 1
given _ = 0

-- the number of blocks in the texts that a change sets in values of its unit
abbrev pub set_blocks : StepChange → ℕ
set_blocks (AddToMatches t fs) = blocks fs
set_blocks (ReplaceMatches t fs) = blocks fs
set_blocks (AddAtMatches t f) = atom_blocks f.atom
set_blocks (SetAtMatches t f) = atom_blocks f.atom
set_blocks (SetEverywhere f) = atom_blocks f.atom
set_blocks _ = 0
