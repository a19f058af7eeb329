use Rattle.std.proofs.Common.{◌≡◌, sym, ◌∙◌, ap, ℕ, List, Bool, true, false, ◌&&◌, take, ◌++◌, ◌∷◌, [], ◌+◌}
use Rattle.std.proofs.Math.Bool.{and-false, and-true}
use Rattle.std.proofs.lemmas.List.{take_more, take_all}
use Rattle.scim_schema.specs.declared.Leaf.{Leaf}
use Rattle.scim_schema.specs.declared.Attribute.TheVariants.{Members}
use Rattle.scim_schema.specs.declared.SubAttribute.TheVariants.{Value}
use Rattle.scim_schema.specs.Units.{leaf_at}
use Rattle.scim_cell.specs.Rows.{Row}
use Rattle.scim_policy.specs.declared.rules.Decision.{Decision}
use Rattle.scim_policy.specs.PatternTable.{rules_in}
use Rattle.scim_view.specs.declared.group_index.GroupIndex.{GroupIndex}
use Rattle.scim_view.specs.View.{decision_in}
use Rattle.scim_view.specs.code.Index.{is_found, names_shown}
use Rattle.scim_view.specs.code.Memberships.{names_id}
use Rattle.scim_view.proofs.IndexLemmas.{noted_member, passed_member}
use Rattle.scim_view.proofs.group_index.GroupIndex.add_shown_members.Goals as goal
use Rattle.scim_view.proofs.group_index.GroupIndex.add_shown_members.Goals.{in-Some+in_ok-decide_in+then-branch+in_ok-add_member, in-Some+in_ok-decide_in+else-branch, in_default}

pub loop-member-preserved : goal.loop-member-preserved
loop-member-preserved c =
    let h = c.loop-member.invariant in
    let i = c.loop-member.member-index in
    let ms = c.args.members.now in
    let m = c.member-item.result in
    let old = c.args.self.now in
    let now = c.loop-member.self in
    let d = decision_in (rules_in c.args.patterns.now) in
    let more : take (i + 1) ms ≡ take i ms ++ m ∷ [] = take_more ms i m c.loop-member-test.true ∙ ap (λ (x : Row). take i ms ++ x ∷ []) (sym c.member-item.is) in
    -- what is decided on the member, on what is found of an id in it
    let named = λ (id : List ℕ) (b : Bool) (is : (d m (leaf_at Members Value)).allow ≡ b). ap (λ (a : Bool). names_id id m && a) is in
    elim c.match-member_id.branch [
      | in-Some+in_ok-decide_in+then-branch+in_ok-add_member w ↦ record {
        groups = ap (λ (s : GroupIndex). s.groups) w.self-is ∙ w.add_member.ensures.groups ∙ h.groups;
        positions =
            let allowed : (d m (leaf_at Members Value)).allow ≡ true = ap (λ (l : Leaf). (d m l).allow) (sym c.of-value.ensures) ∙ ap (λ (e : Decision). e.allow) (sym w.in_ok-decide_in.ensures) ∙ w.if-branch.true in
            rw (w.self-is, more)
            (noted_member (names_shown d) old now w.add_member.new.self (take i ms) m w.in-Some.id h.groups h.positions
            (λ id valid. named id true allowed ∙ and-true (names_id id m) ∙ c.member_id.ensures.id id valid ∙ ap (is_found id) w.in-Some.is) w.in_ok-add_member.ensures.positions);
      }
      | in-Some+in_ok-decide_in+else-branch w ↦ record {
        groups = ap (λ (s : GroupIndex). s.groups) w.self-is ∙ h.groups;
        positions =
            let denied : (d m (leaf_at Members Value)).allow ≡ false = ap (λ (l : Leaf). (d m l).allow) (sym c.of-value.ensures) ∙ ap (λ (e : Decision). e.allow) (sym w.in_ok-decide_in.ensures) ∙ w.if-branch.false in
            rw (w.self-is, more)
            (passed_member (names_shown d) old now (take i ms) m h.positions (λ id valid. named id false denied ∙ and-false (names_id id m)));
      }
      | in_default w ↦ record {
        groups = ap (λ (s : GroupIndex). s.groups) w.self-is ∙ h.groups;
        positions = rw (w.self-is, more)
            (passed_member (names_shown d) old now (take i ms) m h.positions
            (λ id valid. ap (λ (b : Bool). b && (d m (leaf_at Members Value)).allow) (c.member_id.ensures.id id valid ∙ ap (is_found id) w.in_default.is)));
      }
    ]

pub returns-clause-positions : goal.returns-clause-positions
returns-clause-positions c =
    let h = c.loop-member.invariant in
    let all : take c.loop-member.member-index c.args.members.now ≡ c.args.members.now = take_all c.loop-member.member-index c.args.members.now c.loop-member-test.false in
    rw all at h.positions
