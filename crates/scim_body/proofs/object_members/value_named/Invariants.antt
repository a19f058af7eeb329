use Rattle.std.proofs.Common.{◌≡◌, drop}
use Rattle.scim_body.specs.View.{members_view}
use Rattle.scim_body.specs.BodyNames.{values_named}
use Rattle.scim_body.proofs.object_members.value_named.Given as goal

-- the members before aren't it
abbrev pub invariant-loop-member : goal.invariant-loop-member
invariant-loop-member l = values_named l.name (members_view (drop l.member-index l.members)) ≡ values_named l.name (members_view l.members)
