use Rattle.std.proofs.Common.{◌≡◌, drop, true}
use Rattle.std.specs.List.{list_any}
use Rattle.scim_filter.specs.Truth.{some_cell}
use Rattle.scim_filter.specs.code.Looks.{admitted, looked}
use Rattle.scim_filter.proofs.LookLemmas.{passes_in}
use Rattle.scim_filter.proofs.truth.has_attribute.Given as goal

abbrev pub invariant-loop-row : goal.invariant-loop-row
invariant-loop-row g l =
    let keeps = g.T.RowTest.keeps in
    list_any (passes_in (admitted keeps l.look) (λ f. true) l.attribute) (drop l.row-index l.rows) ≡ some_cell (λ f. true) l.attribute (looked keeps l.look l.rows)
