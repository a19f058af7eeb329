use Rattle.std.proofs.Common.{rules, sym, ◌∙◌}
use Rattle.scim_json.specs.PartData.{part_data}
use Rattle.scim_json.proofs.AddedTokens.{added}
use Rattle.scim_json.proofs.Adding.{array_of-present}
use Rattle.scim_json.proofs.list_responses.write_resources.Goals as goal

pub returns : goal.returns
returns c =
    rw (array_of-present part_data c.args.parts.now (sym c.is_empty.ensures ∙ c.if-is_empty.false))
    (added c.args.out.now c.key.new.self c.write_parts.new.out _ _ (search rules, c.in_ok-key.ensures.ok) c.in_ok-write_parts.ensures)
