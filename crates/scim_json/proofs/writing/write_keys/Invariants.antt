use Rattle.std.proofs.Common.{◌≡◌, ◌++◌, drop}
use Rattle.scim_schema.specs.JsonKeys.{key_text}
use Rattle.scim_json.specs.PartData.{members_where, key_data}
use Rattle.scim_json.specs.Tokens.{members_tokens}
use Rattle.scim_json.proofs.writing.write_keys.Given as goal

-- what is written and the members that are left make the whole
abbrev pub invariant-loop-key : goal.invariant-loop-key
invariant-loop-key l = record {
  before : l.out.before ≡ l.fn.out.before;
  written : l.out.tokens ++ members_tokens (members_where key_text (key_data l.form l.part) (drop l.key-index l.keys)) ≡ l.fn.out.tokens ++ members_tokens (members_where key_text (key_data l.form l.part) l.keys);
}
