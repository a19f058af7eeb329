use Rattle.std.proofs.Common.{◌≤◌, ℕ, length}
use Rattle.scim_json.proofs.ListedLemmas.{Continues}
use Rattle.scim_json.proofs.users_files.is_rest_of_list.Given as goal

-- the rest of the list is the items so far and those that are left
abbrev pub invariant-items : goal.invariant-items
invariant-items l = (turns : ℕ) → length l.initial.reader ≤ turns → Continues turns l.initial.reader l.reader

abbrev pub decreases-items : goal.decreases-items
decreases-items l = length l.reader
