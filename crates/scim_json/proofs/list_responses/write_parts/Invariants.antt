use Rattle.std.proofs.Common.{◌≡◌, ◌++◌, drop, ◌∷◌}
use Rattle.json.specs.Token.{begin_array}
use Rattle.scim_json.specs.PartData.{items_of, part_data}
use Rattle.scim_json.specs.Tokens.{items_tokens}
use Rattle.scim_json.proofs.list_responses.write_parts.Given as goal

-- what is written and the items that are left make the whole
abbrev pub invariant-loop-part : goal.invariant-loop-part
invariant-loop-part l = record {
  before : l.out.before ≡ l.fn.out.before;
  written : l.out.tokens ++ items_tokens (items_of part_data (drop l.part-index l.parts)) ≡ l.fn.out.tokens ++ begin_array ∷ items_tokens (items_of part_data l.parts);
}
