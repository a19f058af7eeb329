-- The changes that a step can make to the values of its unit, independent of the code's representation.
use Rattle.std.specs.Prelude.{ℕ, List}
use Rattle.scim_schema.specs.declared.SubAttribute.{SubAttribute}
use Rattle.scim_cell.specs.declared.rows.Field.{Field}
use Rattle.scim_cell.specs.Rows.{Row}
use Rattle.scim_filter_grammar.specs.Tree.{Tree, tree_of}
use Rattle.scim_patch_steps.specs.declared.changes.StepChange.{StepChange as KeptChange}
use Rattle.scim_patch_steps.specs.declared.changes.StepChange.TheVariants as kept

-- a change of the values of a unit; the variants combine an operation with a form of path (RFC 7644 section
-- 3.5.2); each tree is a value path
pub data StepChange : Type 0 where
  Keep : StepChange
  KeepMatches : Tree → StepChange
  KeepSubAttribute : SubAttribute → StepChange
  Append : List Row → StepChange
  Replace : List Row → StepChange
  Clear : StepChange
  RemoveListed : List (List ℕ) → StepChange
  AddToMatches : Tree → List Field → StepChange
  ReplaceMatches : Tree → List Field → StepChange
  RemoveMatches : Tree → StepChange
  AddAtMatches : Tree → Field → StepChange
  SetAtMatches : Tree → Field → StepChange
  ClearAtMatches : Tree → SubAttribute → StepChange
  SetEverywhere : Field → StepChange
  ClearEverywhere : SubAttribute → StepChange

-- the change that a value in code represents
abbrev pub change_of : KeptChange → StepChange
change_of kept.Keep = Keep
change_of (kept.KeepMatches filter) = KeepMatches (tree_of filter)
change_of (kept.KeepSubAttribute b) = KeepSubAttribute b
change_of (kept.Append values) = Append values.items
change_of (kept.Replace values) = Replace values.items
change_of kept.Clear = Clear
change_of (kept.RemoveListed texts) = RemoveListed texts.items
change_of (kept.AddToMatches filter fields) = AddToMatches (tree_of filter) fields.items
change_of (kept.ReplaceMatches filter fields) = ReplaceMatches (tree_of filter) fields.items
change_of (kept.RemoveMatches filter) = RemoveMatches (tree_of filter)
change_of (kept.AddAtMatches filter field) = AddAtMatches (tree_of filter) field
change_of (kept.SetAtMatches filter field) = SetAtMatches (tree_of filter) field
change_of (kept.ClearAtMatches filter b) = ClearAtMatches (tree_of filter) b
change_of (kept.SetEverywhere field) = SetEverywhere field
change_of (kept.ClearEverywhere b) = ClearEverywhere b
