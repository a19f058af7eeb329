use Rattle.std.proofs.Common.{sym, ◌∙◌, ap, ℕ, List, ◌<◌, ◌||◌, false, length, arith}
use Rattle.std.specs.BTreeSet.{BTreeSet}
use Rattle.std.proofs.Math.Bool.{or-false}
use Rattle.std.proofs.lemmas.Map.Text.{is_eq-slice_cmp}
use Rattle.scim_cell.specs.Equality.{is_same_id}
use Rattle.scim_shelf.proofs.Facts.{or_cond}
use Rattle.scim_search.specs.PossibleIds.{has_id}
use Rattle.scim_search.proofs.PossibleIdLemmas.{member_more}
use Rattle.scim_search.proofs.possible_ids.add_members.Goals as goal
use Rattle.scim_search.proofs.possible_ids.add_members.Goals.{in-Some+in_ok-insert, in_default}

pub loop-member-preserved : goal.loop-member-preserved
loop-member-preserved c =
    let members = c.args.members.now in
    let k = c.loop-member.member-index in
    let member = c.member-item.result in
    let inside : k < length members = omega arith in
    elim c.match-member_id.branch [
      | in-Some+in_ok-insert w ↦ λ i valid.
          let id = w.in-Some.id in
          member_more i members k member (has_id c.args.ids.now i) (has_id c.loop-member.ids i) _ (is_same_id id i) inside c.member-item.is (w.in-Some.ensures.id i valid)
          (ap (λ (s : BTreeSet (List ℕ)). has_id s i) w.ids-is ∙ w.in_ok-insert.ensures.updates.0 i ∙ or_cond _ (has_id c.loop-member.ids i) ∙ ap (λ b. has_id c.loop-member.ids i || b) (is_eq-slice_cmp id i))
          (c.loop-member.invariant i valid)
      | in_default w ↦ λ i valid.
          member_more i members k member (has_id c.args.ids.now i) (has_id c.loop-member.ids i) _ false inside c.member-item.is (w.in_default.ensures.id i valid)
          (ap (λ (s : BTreeSet (List ℕ)). has_id s i) w.ids-is ∙ sym (or-false (has_id c.loop-member.ids i))) (c.loop-member.invariant i valid)
    ]
