use Rattle.std.proofs.Common.{◌≡◌, take}
use Rattle.std.specs.Prelude.{string_bytes}
use Rattle.scim_cell.specs.code.Keys.{fields_key}
use Rattle.scim_cell.proofs.same_value_keys.all_texts.Given as goal

-- the texts of the fields before this one
abbrev pub invariant-loop-field : goal.invariant-loop-field
invariant-loop-field l = string_bytes l.key ≡ fields_key (take l.field-index l.fields)
