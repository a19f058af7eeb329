use Rattle.std.proofs.Common.{arith, sym, ◌∙◌}
use Rattle.std.proofs.lemmas.Grind.{common_steps}
use Rattle.scim_json.specs.PartData.{value_data}
use Rattle.scim_json.proofs.Adding.{array_of-present}
use Rattle.scim_json.proofs.writing.write_values.Goals as goal

pub returns : goal.returns
returns c =
    rw (array_of-present (value_data c.args.form c.args.attribute) c.args.values.now (sym c.is_empty.ensures ∙ c.if-is_empty.false))
    (grind (arith, common_steps))
