use Rattle.std.proofs.Common.{◌≡◌, ◌++◌, drop}
use Rattle.scim_schema.specs.Names.{sub_attribute_name}
use Rattle.scim_json.specs.PartData.{members_where, sub_data}
use Rattle.scim_json.specs.Tokens.{members_tokens}
use Rattle.scim_json.proofs.writing.write_sub_attributes.Given as goal

-- what is written and the members that are left make the whole
abbrev pub invariant-loop-sub_attribute : goal.invariant-loop-sub_attribute
invariant-loop-sub_attribute l = record {
  before : l.out.before ≡ l.fn.out.before;
  written : l.out.tokens ++ members_tokens (members_where sub_attribute_name (sub_data l.own l.attribute) (drop l.sub_attribute-index l.sub_attributes)) ≡ l.fn.out.tokens ++ members_tokens (members_where sub_attribute_name (sub_data l.own l.attribute) l.sub_attributes);
}
