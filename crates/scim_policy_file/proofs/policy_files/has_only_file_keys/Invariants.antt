use Rattle.std.proofs.Common.{◌≡◌, drop}
use Rattle.json.specs.Value.{members_view}
use Rattle.scim_policy_file.specs.File.{has_only, file_keys}
use Rattle.scim_policy_file.proofs.policy_files.has_only_file_keys.Given as goal

-- the answer for the members that are left is that for all
abbrev pub invariant-loop-member : goal.invariant-loop-member
invariant-loop-member l = has_only file_keys (members_view (drop l.member-index l.members)) ≡ has_only file_keys (members_view l.members)
