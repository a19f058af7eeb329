use Rattle.std.proofs.Common.{rules, [], ◌∷◌}
use Rattle.json.specs.Token.{end_object}
use Rattle.scim_json.proofs.AddedTokens.{added}
use Rattle.scim_json.proofs.list_responses.write_counts.Goals as goal

pub returns : goal.returns
returns c =
    added c.args.out.now c.write_count.new.out c.end_object.new.self _ _ c.in_ok-write_count.ensures
    (added c.write_count.new.out c.write_schemas.new.out c.end_object.new.self _ _ c.in_ok-write_schemas.ensures
    (added c.write_schemas.new.out c.write_count-2.new.out c.end_object.new.self _ _ c.in_ok-write_count-2.ensures
    (added c.write_count-2.new.out c.write_count-3.new.out c.end_object.new.self _ (end_object ∷ []) c.in_ok-write_count-3.ensures (search rules, c.in_ok-end_object.ensures.ok))))
