use Rattle.std.proofs.Common.{◌≡◌, drop}
use Rattle.scim_body.specs.View.{members_view}
use Rattle.scim_patch_message.specs.Messages.{member_steps}
use Rattle.scim_patch_message.specs.Readings.{both, each_member}
use Rattle.scim_patch_message.specs.code.Inside.{read_of}
use Rattle.scim_patch_message.proofs.pathless_steps.push_members.Given as goal

-- what is read and what is left to read make all
abbrev pub invariant-loop-member : goal.invariant-loop-member
invariant-loop-member l =
    both (read_of l.fn.reading) (each_member (member_steps l.kind l.operation) (members_view l.members))
    ≡ both (read_of l.reading) (each_member (member_steps l.kind l.operation) (members_view (drop l.member-index l.members)))
