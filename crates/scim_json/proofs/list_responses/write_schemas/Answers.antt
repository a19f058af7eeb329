use Rattle.std.proofs.Common.{rules}
use Rattle.scim_json.specs.ListData.{list_schemas}
use Rattle.scim_json.proofs.AddedTokens.{added}
use Rattle.scim_json.proofs.list_responses.write_schemas.Goals as goal

pub returns : goal.returns
unfolding list_schemas
returns c =
    added c.args.out.now c.key.new.self c.end_array.new.self _ _ (search rules, c.in_ok-key.ensures.ok)
    (added c.key.new.self c.begin_array.new.self c.end_array.new.self _ _ (search rules, c.in_ok-begin_array.ensures.ok)
    (added c.begin_array.new.self c.string.new.self c.end_array.new.self _ _ (search rules, c.in_ok-string.ensures.ok) (search rules, c.in_ok-end_array.ensures.ok)))
