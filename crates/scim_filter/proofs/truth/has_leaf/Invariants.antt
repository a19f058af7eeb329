use Rattle.std.proofs.Common.{◌≡◌, drop, true, ◌&&◌}
use Rattle.std.specs.List.{list_any}
use Rattle.scim_cell.specs.declared.rows.Field.{Field}
use Rattle.scim_schema.specs.Units.{is_same_leaf}
use Rattle.scim_filter.specs.Truth.{some_atom}
use Rattle.scim_filter.specs.code.Looks.{admitted, looked}
use Rattle.scim_filter.proofs.LookLemmas.{passes_in}
use Rattle.scim_filter.proofs.truth.has_leaf.Given as goal

abbrev pub invariant-loop-row : goal.invariant-loop-row
invariant-loop-row g l =
    let keeps = g.T.RowTest.keeps in
    list_any (passes_in (admitted keeps l.look) (λ (f : Field). is_same_leaf f.leaf l.leaf && true) l.leaf.attribute) (drop l.row-index l.rows) ≡ some_atom (λ a. true) l.leaf (looked keeps l.look l.rows)
