use Rattle.std.proofs.Common.{◌≡◌, drop, map}
use Rattle.json.specs.Value.{members_view}
use Rattle.scim_policy_file.specs.File.{has_only}
use Rattle.scim_fault_details.specs.code.Borrowed.{text_at}
use Rattle.scim_fault_details.proofs.shape_details.check_members.Given as goal

-- the answer for the members that are left is that for all
abbrev pub invariant-loop-member : goal.invariant-loop-member
invariant-loop-member l = has_only (map text_at l.keys) (members_view (drop l.member-index l.members)) ≡ has_only (map text_at l.keys) (members_view l.members)
