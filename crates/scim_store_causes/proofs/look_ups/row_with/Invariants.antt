use Rattle.std.proofs.Common.{◌≡◌}
use Rattle.std.specs.List.{AllWithin}
use Rattle.sqlite.specs.Order.{column}
use Rattle.scim_store_tables.specs.Audit.{number}
use Rattle.scim_store_causes.proofs.look_ups.row_with.Given as goal

-- none of the rows so far has the number
abbrev pub invariant-loop-row : goal.invariant-loop-row
invariant-loop-row l = AllWithin (λ r. column r 0 ≡ number l.number → ⊥) l.rows 0 l.row-index
