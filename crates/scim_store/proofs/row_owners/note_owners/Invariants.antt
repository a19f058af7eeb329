use Rattle.std.proofs.Common.{◌≡◌, ◌||◌, ℕ, List, take}
use Rattle.std.specs.Ordering.{nat_cmp}
use Rattle.std.specs.Cmp.Lexicographic.{slice_cmp}
use Rattle.std.specs.BTreeSet.{contains}
use Rattle.scim_cell.specs.Ids.{IsId}
use Rattle.scim_store.specs.Owners.{is_owner}
use Rattle.scim_store.proofs.row_owners.note_owners.Given as goal

-- the owners of the rows so far are there
abbrev pub invariant-loop-row : goal.invariant-loop-row
invariant-loop-row l = (id : List ℕ) → IsId id → contains (slice_cmp nat_cmp) l.ids id ≡ (contains (slice_cmp nat_cmp) l.fn.ids id || is_owner (take l.row-index l.rows) id)
