use Rattle.std.proofs.Common.{◌∙◌, ◌+◌, drop, sym, ap}
use Rattle.std.proofs.lemmas.List.{at_drop_more}
use Rattle.scim_body.specs.View.{view, members_view}
use Rattle.scim_patch_message.specs.PathSteps.{own_member}
use Rattle.scim_patch_message.specs.Readings.{both, each_member}
use Rattle.scim_patch_message.specs.code.Inside.{read_of}
use Rattle.scim_patch_message.proofs.BothLemmas.{both_assoc}
use Rattle.scim_patch_message.proofs.path_targets.push_own_members.Goals as goal

pub loop-member-preserved : goal.loop-member-preserved
loop-member-preserved c =
    let read = own_member c.args.kind c.args.operation c.args.schema in
    let members = c.args.members.now in
    let old = read_of c.loop-member.reading in
    let rest = each_member read (members_view (drop (c.loop-member.member-index + 1) members)) in
    c.loop-member.invariant
    ∙ at_drop_more (λ left. both old (each_member read (members_view left))) members c.loop-member.member-index _ c.loop-member-test.true
    ∙ ap (λ member. both old (both (read member.0.now (view member.1)) rest)) (sym c.member-item.is)
    ∙ sym (both_assoc old _ rest)
    ∙ ap (λ r. both r rest) (sym c.in_ok-push_own_member.ensures)
