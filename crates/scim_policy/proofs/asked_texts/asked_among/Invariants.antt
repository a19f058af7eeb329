use Rattle.std.proofs.Common.{◌≡◌, ◌++◌, drop}
use Rattle.scim_policy.specs.code.Asked.{asked_among}
use Rattle.scim_policy.proofs.asked_texts.asked_among.Given as goal

-- the texts so far, with those of the rows that are left, are those of all rows
abbrev pub invariant-loop-row : goal.invariant-loop-row
invariant-loop-row l = l.texts.items ++ asked_among l.leaves (drop l.row-index l.rows) ≡ asked_among l.leaves l.rows
