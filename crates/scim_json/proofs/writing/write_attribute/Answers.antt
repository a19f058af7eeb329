use Rattle.std.proofs.Common.{arith, sym, ◌∙◌}
use Rattle.std.proofs.lemmas.Grind.{common_steps}
use Rattle.scim_cell.specs.Rows.{rows}
use Rattle.scim_json.proofs.OwnRows.{empty, data_none, data_simple, data_complex, data_values}
use Rattle.scim_json.proofs.writing.write_attribute.Goals as goal

pub returns-then-is_empty : goal.returns-then-is_empty
returns-then-is_empty c =
    rw (data_none c.args.form c.args.attribute c.attribute_rows-own.result.now (rows c.args.part.now) c.attribute_rows-own.ensures.rows (empty c.attribute_rows-own.result.now (sym c.is_empty.ensures ∙ c.if-is_empty.true)))
    (grind (arith, common_steps))

pub returns-in-Simple : goal.returns-in-Simple
returns-in-Simple c =
    rw (data_simple c.args.form c.args.attribute c.attribute_rows-own.result.now (rows c.args.part.now) c.attribute_rows-own.ensures.rows (sym c.shape_of.ensures ∙ c.in-Simple.is))
    c.write_simple.ensures

pub returns-in-Complex : goal.returns-in-Complex
returns-in-Complex c =
    rw (data_complex c.args.form c.args.attribute c.attribute_rows-own.result.now (rows c.args.part.now) c.attribute_rows-own.ensures.rows (sym c.shape_of.ensures ∙ c.in-Complex.is), ← c.ordered_sub_attributes-sub_attributes.ensures)
    c.write_complex.ensures

pub returns-in-MultiValued : goal.returns-in-MultiValued
returns-in-MultiValued c =
    rw (data_values c.args.form c.args.attribute c.attribute_rows-own.result.now c.args.part.now c.attribute_rows-own.ensures.valid c.attribute_rows-own.ensures.rows (sym c.shape_of.ensures ∙ c.in-MultiValued.is))
    c.write_values.ensures
