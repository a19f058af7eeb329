use Rattle.std.proofs.Common.{◌≡◌, ◌++◌, take}
use Rattle.scim_change.proofs.creating.push_copies.Given as goal

abbrev pub invariant-loop-row : goal.invariant-loop-row
invariant-loop-row l = l.rows.items ≡ l.fn.rows.items ++ take l.row-index l.values
