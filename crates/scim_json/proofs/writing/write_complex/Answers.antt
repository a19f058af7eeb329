use Rattle.std.proofs.Common.{arith, sym, ◌∙◌}
use Rattle.std.proofs.lemmas.Grind.{common_steps}
use Rattle.scim_schema.specs.Names.{sub_attribute_name}
use Rattle.scim_json.specs.PartData.{sub_data}
use Rattle.scim_json.proofs.Adding.{members_where-absent, object_of-present}
use Rattle.scim_json.proofs.writing.write_complex.Goals as goal

pub returns-then-not-has_sub_attribute : goal.returns-then-not-has_sub_attribute
returns-then-not-has_sub_attribute c =
    rw (members_where-absent sub_attribute_name (sub_data c.args.own.now c.args.attribute) c.args.sub_attributes.now (sym c.has_sub_attribute.ensures ∙ c.if-not-has_sub_attribute.true))
    (grind (arith, common_steps))

pub returns : goal.returns
returns c =
    rw (object_of-present sub_attribute_name (sub_data c.args.own.now c.args.attribute) c.args.sub_attributes.now (sym c.has_sub_attribute.ensures ∙ c.if-not-has_sub_attribute.false))
    (grind (arith, common_steps))
