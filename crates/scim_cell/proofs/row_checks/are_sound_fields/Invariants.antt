use Rattle.std.proofs.Common.{drop}
use Rattle.std.specs.Prelude.{◌↔◌, None}
use Rattle.scim_cell.specs.code.Fields.{AreRising}
use Rattle.scim_cell.proofs.row_checks.are_sound_fields.Given as goal

abbrev pub invariant-loop-field : goal.invariant-loop-field
invariant-loop-field l = AreRising l.kind l.unit None l.fields ↔ AreRising l.kind l.unit l.before (drop l.field-index l.fields)
