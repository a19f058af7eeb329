use Rattle.std.proofs.Common.{◌≡◌, drop}
use Rattle.scim_cell.specs.Rows.{is_truth, atom_in}
use Rattle.scim_patch_values.proofs.everywhere.says_primary.Given as goal

-- those that are left decide
abbrev pub invariant-loop-field : goal.invariant-loop-field
invariant-loop-field l = is_truth (atom_in l.leaf (drop l.field-index l.fields)) ≡ is_truth (atom_in l.leaf l.fields)
