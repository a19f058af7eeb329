use Rattle.std.proofs.Common.{◌≡◌, take}
use Rattle.scim_patch_values.proofs.everywhere.value_of.Given as goal

abbrev pub invariant-loop-field : goal.invariant-loop-field
invariant-loop-field l = l.copies.items ≡ take l.field-index l.fields
