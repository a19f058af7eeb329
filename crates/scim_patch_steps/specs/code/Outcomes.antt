-- The rows that a result in code represents.
use Rattle.std.specs.Prelude.{List, Result, Ok, Err}
use Rattle.scim_cell.specs.Content.{Content}
use Rattle.scim_cell.specs.Rows.{Row, rows}
use Rattle.scim_patch_steps.specs.declared.steps.StepFault.{StepFault}

-- the rows of the resulting resource, or the fault
abbrev pub rows_left : Result Content StepFault → Result (List Row) StepFault
rows_left (Ok c) = Ok (rows c)
rows_left (Err e) = Err e
