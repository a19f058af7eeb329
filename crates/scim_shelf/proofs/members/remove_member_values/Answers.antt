use Rattle.std.proofs.Common.{sym, ◌∙◌, ap, ℕ, List, ◌<◌, Bool, false, not, ◌&&◌, cond, length, take, arith}
use Rattle.std.specs.Prelude.{None, Some}
use Rattle.std.specs.Ordering.{nat_cmp}
use Rattle.std.specs.Cmp.Lexicographic.{slice_cmp, nat_list_eq_equiv}
use Rattle.std.proofs.lemmas.Map.Text.{is_eq-slice_cmp}
use denote.Ref.{Bor}
use Rattle.scim_cell.specs.Rows.{Row}
use Rattle.scim_value.specs.Members.{is_text}
use Rattle.scim_shelf.specs.Members.{is_in, is_value_of, is_found, value_in}
use Rattle.scim_shelf.proofs.ValueLemmas.{value_more, cond_not, not_either, or_false, emptied}
use Rattle.scim_shelf.proofs.members.remove_member_values.Goals as goal
use Rattle.scim_shelf.proofs.members.remove_member_values.Goals.{in-Some, in_default}

pub returns-then-is_empty : goal.returns-then-is_empty
returns-then-is_empty c = λ v.
    emptied (λ (m : Row). is_text v (value_in m)) c.args.members.now c.loop-member.member-index
    (λ (u : Bor (List ℕ)). slice_cmp nat_cmp v u.now) c.loop-member.values (is_in v c.args.values.now)
    (c.is_empty.ensures.0 c.if-is_empty.true) (c.loop-member.invariant v)

pub loop-member-preserved : goal.loop-member-preserved
loop-member-preserved c =
    let members = c.args.members.now in
    let k = c.loop-member.member-index in
    let member = c.member-item.result in
    let inside : k < length members = omega arith in
    elim c.match-value_of.branch [
      | in-Some w ↦ λ v.
          let u = w.in-Some.value.now in
          let was = is_in v c.args.values.now in
          let before = is_value_of v (take k members) in
          ap (is_in v) w.values-is
          ∙ w.remove.ensures.updates.0 (record { ref_ptr = (0, 0); now = v })
          ∙ (λ i. cond ((is_eq-slice_cmp u v ∙ nat_list_eq_equiv.symm u v) i) false (c.loop-member.invariant v i))
          ∙ cond_not (is_found v (Some u)) (was && not before)
          ∙ not_either was before (is_found v (Some u))
          ∙ ap (λ (b : Bool). was && not b) (sym (value_more v members k member (Some u) inside c.member-item.is (w.in-Some.ensures v)))
      | in_default w ↦ λ v.
          ap (is_in v) w.values-is ∙ c.loop-member.invariant v
          ∙ ap (λ (b : Bool). is_in v c.args.values.now && not b)
          (sym (or_false (is_value_of v (take k members))) ∙ sym (value_more v members k member None inside c.member-item.is (w.in_default.ensures v)))
    ]
