use Rattle.std.proofs.Common.{◌≡◌, sym, ◌∙◌, ap, take, ◌++◌, ◌∷◌, [], ◌+◌}
use Rattle.std.proofs.lemmas.List.{take_more, take_all}
use Rattle.scim_cell.specs.Rows.{Row}
use Rattle.scim_view.specs.declared.group_index.GroupIndex.{GroupIndex}
use Rattle.scim_view.specs.code.Index.{is_found}
use Rattle.scim_view.specs.code.Memberships.{names_id}
use Rattle.scim_view.proofs.IndexLemmas.{noted_member, passed_member}
use Rattle.scim_view.proofs.group_index.GroupIndex.add_members.Goals as goal
use Rattle.scim_view.proofs.group_index.GroupIndex.add_members.Goals.{in-Some+in_ok-add_member, in_default}

pub loop-member-preserved : goal.loop-member-preserved
loop-member-preserved c =
    let h = c.loop-member.invariant in
    let i = c.loop-member.member-index in
    let ms = c.args.members.now in
    let m = c.member-item.result in
    let old = c.args.self.now in
    let now = c.loop-member.self in
    let more : take (i + 1) ms ≡ take i ms ++ m ∷ [] = take_more ms i m c.loop-member-test.true ∙ ap (λ (x : Row). take i ms ++ x ∷ []) (sym c.member-item.is) in
    elim c.match-member_id.branch [
      | in-Some+in_ok-add_member w ↦ record {
        groups = ap (λ (s : GroupIndex). s.groups) w.self-is ∙ w.add_member.ensures.groups ∙ h.groups;
        positions = rw (w.self-is, more)
            (noted_member names_id old now w.add_member.new.self (take i ms) m w.in-Some.id h.groups h.positions
            (λ id valid. c.member_id.ensures.id id valid ∙ ap (is_found id) w.in-Some.is) w.in_ok-add_member.ensures.positions);
      }
      | in_default w ↦ record {
        groups = ap (λ (s : GroupIndex). s.groups) w.self-is ∙ h.groups;
        positions = rw (w.self-is, more)
            (passed_member names_id old now (take i ms) m h.positions (λ id valid. c.member_id.ensures.id id valid ∙ ap (is_found id) w.in_default.is));
      }
    ]

pub returns-clause-positions : goal.returns-clause-positions
returns-clause-positions c =
    let h = c.loop-member.invariant in
    let all : take c.loop-member.member-index c.args.members.now ≡ c.args.members.now = take_all c.loop-member.member-index c.args.members.now c.loop-member-test.false in
    rw all at h.positions
