use Rattle.std.proofs.Common.{◌≡◌, drop}
use Rattle.scim_patch_values.specs.Fields.{over}
use Rattle.scim_patch_values.proofs.fields.over.Given as goal

-- the fields that are left go over those so far
abbrev pub invariant-loop-field : goal.invariant-loop-field
invariant-loop-field l = over (drop l.field-index l.given) l.all.items ≡ over l.given l.fn.fields.items
