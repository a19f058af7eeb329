use Rattle.std.proofs.Common.{◌≡◌, rules, sym}
use Rattle.scim_cell.specs.Rows.{rows}
use Rattle.scim_schema.specs.contracts.Attribute.{the_type as the_attribute}
use denote.Enum.Bare.{same_true}
use Rattle.scim_filter.proofs.RowLemmas.{own_again}
use Rattle.scim_filter.proofs.truth.Cells.around.Goals as goal

pub returns-in-All : goal.returns-in-All
returns-in-All c = rw (c.in-All.is, c.attribute_rows.ensures.rows) (own_again c.args.attribute (rows c.in-All.part.now))

pub returns-in-Of : goal.returns-in-Of
returns-in-Of c =
    let same : c.in-Of.own ≡ c.args.attribute = rw c.in-Of.is at (same_true the_attribute (search rules) _ _ (sym c.if-eq.ensures)) in
    rw (c.in-Of.is, same) (sym (own_again c.args.attribute c.in-Of.rows.now))
