use Rattle.std.proofs.Common.{vec_len}
use Rattle.scim_patch_steps.proofs.GroupLemmas.{IsGrouped}
use Rattle.scim_patch_steps.proofs.unit_rows.grouped.Given as goal

-- the rows that are left, before the groups
abbrev pub invariant-loop-last : goal.invariant-loop-last
invariant-loop-last l = IsGrouped l.fn.rows.items l.rows.items l.groups.items

abbrev pub decreases-loop-last : goal.decreases-loop-last
decreases-loop-last l = vec_len l.rows
