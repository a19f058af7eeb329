use Rattle.std.proofs.Common.{◌≡◌, ◌<◌, ◌-◌, true, get_or}
use Rattle.std.specs.Ordering.{is_le}
use Rattle.sqlite.specs.Order.{Row}
use Rattle.scim_store.proofs.OwnedLemmas.{against}
use Rattle.scim_store.proofs.row_owners.count_of.Given as goal

-- the row before begins with the text or less
abbrev pub invariant-loop-place : goal.invariant-loop-place
invariant-loop-place l = (d : Row) → 0 < l.place → is_le (against l.text (get_or l.rows (l.place - 1) d)) ≡ true
