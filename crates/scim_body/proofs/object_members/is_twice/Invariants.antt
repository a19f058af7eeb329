use Rattle.std.proofs.Common.{◌≡◌, ◌+◌, drop, length, if◌then◌else◌}
use Rattle.scim_body.specs.View.{members_view}
use Rattle.scim_body.specs.BodyNames.{values_named}
use Rattle.scim_body.proofs.object_members.is_twice.Given as goal

-- what is found and what is left to find are all
abbrev pub invariant-loop-member : goal.invariant-loop-member
invariant-loop-member l = (if l.is_found then 1 else 0) + length (values_named l.name (members_view (drop l.member-index l.members))) ≡ length (values_named l.name (members_view l.members))
