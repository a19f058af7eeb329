use Rattle.std.proofs.Common.{◌≡◌, ◌++◌, drop, ◌∷◌}
use Rattle.json.specs.Token.{begin_array}
use Rattle.scim_json.specs.PartData.{items_of, value_data}
use Rattle.scim_json.specs.Tokens.{items_tokens}
use Rattle.scim_json.proofs.writing.write_array.Given as goal

-- what is written and the items that are left make the whole
abbrev pub invariant-loop-value : goal.invariant-loop-value
invariant-loop-value l = record {
  before : l.out.before ≡ l.fn.out.before;
  written : l.out.tokens ++ items_tokens (items_of (value_data l.form l.attribute) (drop l.value-index l.values)) ≡ l.fn.out.tokens ++ begin_array ∷ items_tokens (items_of (value_data l.form l.attribute) l.values);
}
