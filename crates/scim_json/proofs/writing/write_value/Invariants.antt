use Rattle.std.proofs.Common.{◌≡◌, ◌∷◌, ◌++◌, drop}
use Rattle.json.specs.Token.{begin_object}
use Rattle.scim_schema.specs.Names.{sub_attribute_name}
use Rattle.scim_json.specs.PartData.{members_where, field_data}
use Rattle.scim_json.specs.Tokens.{members_tokens}
use Rattle.scim_json.proofs.writing.write_value.Given as goal

-- what is written and the members that are left make the whole
abbrev pub invariant-loop-sub_attribute : goal.invariant-loop-sub_attribute
invariant-loop-sub_attribute l = record {
  before : l.out.before ≡ l.fn.out.before;
  written : l.out.tokens ++ members_tokens (members_where sub_attribute_name (field_data l.attribute l.value.fields) (drop l.sub_attribute-index l.sub_attribute-items)) ≡ l.fn.out.tokens ++ begin_object ∷ members_tokens (members_where sub_attribute_name (field_data l.attribute l.value.fields) l.sub_attribute-items);
}
