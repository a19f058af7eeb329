use Rattle.std.proofs.Common.{◌≡◌}
use Rattle.serde_json.specs.View.{members_view}
use Rattle.scim_body.specs.BodyNames.{value_named}
use Rattle.scim_foreign_users.proofs.exports.member_named.Given as goal

-- the members before have other keys
abbrev pub invariant-loop-key : goal.invariant-loop-key
invariant-loop-key l = value_named l.name (members_view l.fn.members.entries) ≡ value_named l.name (members_view l.key-iterator)
