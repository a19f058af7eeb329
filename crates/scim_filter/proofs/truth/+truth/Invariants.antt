use Rattle.std.proofs.Common.{◌≡◌, drop, ◌∷◌, []}
use Rattle.std.specs.List.{list_any}
use Rattle.scim_cell.specs.Rows.{Row, attribute_rows}
use Rattle.scim_filter_grammar.specs.Tree.{view}
use Rattle.scim_filter.specs.Truth.{truth}
use Rattle.scim_filter.specs.code.Looks.{looked}
use Rattle.scim_filter.proofs.LookLemmas.{passes_alone}
use Rattle.scim_filter.proofs.truth.+truth.Given as goal

abbrev pub invariant-some_value_holds-loop-row : goal.invariant-some_value_holds-loop-row
invariant-some_value_holds-loop-row g l =
    let keeps = g.T.RowTest.keeps in
    let is = truth (view l.filter) in
    list_any (passes_alone keeps l.look is l.attribute) (drop l.row-index l.rows) ≡ list_any (λ (r : Row). is (r ∷ [])) (attribute_rows l.attribute (looked keeps l.look l.rows))
