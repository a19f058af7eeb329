use Rattle.std.proofs.Common.{◌≡◌, drop, ◌&&◌}
use Rattle.std.specs.List.{list_any}
use Rattle.scim_cell.specs.declared.rows.Field.{Field}
use Rattle.scim_schema.specs.Units.{is_same_leaf}
use Rattle.scim_filter.specs.Relation.{stands}
use Rattle.scim_filter.specs.Truth.{some_atom}
use Rattle.scim_filter.specs.code.Looks.{admitted, looked}
use Rattle.scim_filter.proofs.LookLemmas.{passes_in}
use Rattle.scim_filter.proofs.truth.leaf_stands.Given as goal

abbrev pub invariant-loop-row : goal.invariant-loop-row
invariant-loop-row g l =
    let keeps = g.T.RowTest.keeps in
    let passes = λ (f : Field). is_same_leaf f.leaf l.leaf && stands l.exact l.op f.atom l.literal in
    list_any (passes_in (admitted keeps l.look) passes l.leaf.attribute) (drop l.row-index l.rows) ≡ some_atom (λ a. stands l.exact l.op a l.literal) l.leaf (looked keeps l.look l.rows)
