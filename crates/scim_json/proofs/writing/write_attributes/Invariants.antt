use Rattle.std.proofs.Common.{◌≡◌, ◌++◌, drop}
use Rattle.scim_schema.specs.Names.{attribute_name}
use Rattle.scim_cell.specs.Rows.{rows}
use Rattle.scim_json.specs.PartData.{members_where, attribute_data}
use Rattle.scim_json.specs.Tokens.{members_tokens}
use Rattle.scim_json.proofs.writing.write_attributes.Given as goal

-- what is written and the members that are left make the whole
abbrev pub invariant-loop-attribute : goal.invariant-loop-attribute
invariant-loop-attribute l = record {
  before : l.out.before ≡ l.fn.out.before;
  written : l.out.tokens ++ members_tokens (members_where attribute_name (attribute_data l.form (rows l.part)) (drop l.attribute-index l.attributes)) ≡ l.fn.out.tokens ++ members_tokens (members_where attribute_name (attribute_data l.form (rows l.part)) l.attributes);
}
