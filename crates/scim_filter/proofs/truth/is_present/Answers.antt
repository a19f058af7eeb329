use Rattle.std.proofs.Common.{◌≡◌, ◌∙◌, true}
use Rattle.scim_schema.specs.declared.Leaf.{Leaf}
use Rattle.scim_schema.specs.Units.{leaf_at}
use Rattle.scim_filter.specs.Truth.{some_atom}
use Rattle.scim_filter.specs.code.Cells.{rows_in}
use Rattle.scim_filter.specs.code.Looks.{looked}
use Rattle.scim_filter.proofs.LookLemmas.{cells_alike, atoms_alike}
use Rattle.scim_filter.proofs.truth.is_present.Goals as goal

pub returns-in-Attribute : goal.returns-in-Attribute
returns-in-Attribute g c =
    rw c.in-Attribute.is (c.has_attribute.ensures ∙ cells_alike g.T.RowTest.keeps c.args.look.now (λ f. true) c.in-Attribute.attribute c.around.result.now (rows_in c.args.cells) c.around.ensures)

pub returns-in-SubAttribute : goal.returns-in-SubAttribute
returns-in-SubAttribute g c =
    let leaf : Leaf = leaf_at c.in-SubAttribute.attribute c.in-SubAttribute.sub_attribute in
    let own : c.has_leaf.result ≡ some_atom (λ a. true) leaf (looked g.T.RowTest.keeps c.args.look.now c.around-in-SubAttribute.result.now) = rw c.of.ensures at c.has_leaf.ensures in
    rw c.in-SubAttribute.is (own ∙ atoms_alike g.T.RowTest.keeps c.args.look.now (λ a. true) leaf c.around-in-SubAttribute.result.now (rows_in c.args.cells) c.around-in-SubAttribute.ensures)
