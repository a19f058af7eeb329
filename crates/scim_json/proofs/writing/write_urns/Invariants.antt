use Rattle.std.proofs.Common.{◌≡◌, ◌++◌, drop, filter}
use Rattle.scim_cell.specs.Rows.{rows}
use Rattle.scim_json.specs.PartData.{items_of, urn_data, has_extension, schemas_data}
use Rattle.scim_json.specs.Tokens.{items_tokens, value_tokens}
use Rattle.scim_json.proofs.writing.write_urns.Given as goal

-- what is written and the items that are left make the whole
abbrev pub invariant-loop-extension : goal.invariant-loop-extension
invariant-loop-extension l = record {
  before : l.out.before ≡ l.fn.out.before;
  written : l.out.tokens ++ items_tokens (items_of urn_data (filter (has_extension (rows l.part)) (drop l.extension-index l.extensions))) ≡ l.fn.out.tokens ++ value_tokens (schemas_data (rows l.part) l.fn.core l.extensions);
}
