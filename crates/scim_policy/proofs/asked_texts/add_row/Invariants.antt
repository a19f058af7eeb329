use Rattle.std.proofs.Common.{◌≡◌, ◌++◌, drop}
use Rattle.scim_policy.specs.code.Asked.{asked_in}
use Rattle.scim_policy.proofs.asked_texts.add_row.Given as goal

-- the texts so far, with those of the fields that are left, are those before with those of all fields
abbrev pub invariant-loop-field : goal.invariant-loop-field
invariant-loop-field l =
    l.texts.items ++ asked_in l.leaves (drop l.field-index l.fields) ≡ l.fn.texts.items ++ asked_in l.leaves l.fields
