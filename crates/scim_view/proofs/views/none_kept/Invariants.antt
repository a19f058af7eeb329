use Rattle.std.proofs.Common.{◌≡◌, false, take, map}
use Rattle.scim_cell.specs.declared.rows.Field.{Field}
use Rattle.scim_view.proofs.views.none_kept.Given as goal

abbrev pub invariant-loop : goal.invariant-loop
invariant-loop l = l.kept.items ≡ map (λ (f : Field). false) (take l.index l.row.fields)
