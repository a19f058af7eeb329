use Rattle.std.proofs.Common.{sym, ◌∙◌, ap, ◌<◌, true, cond, length, take, arith}
use Rattle.std.specs.Prelude.{None, Some}
use Rattle.std.specs.Cmp.Lexicographic.{nat_list_eq_equiv}
use Rattle.std.proofs.lemmas.Map.Text.{is_eq-slice_cmp}
use Rattle.scim_shelf.specs.Members.{is_in, is_value_of, is_found}
use Rattle.scim_shelf.proofs.ValueLemmas.{value_more, or_cond, or_false}
use Rattle.scim_shelf.proofs.members.member_values.Goals as goal
use Rattle.scim_shelf.proofs.members.member_values.Goals.{in-Some+in_ok-insert, in_default}

pub loop-member-preserved : goal.loop-member-preserved
loop-member-preserved c =
    let members = c.args.members.now in
    let k = c.loop-member.member-index in
    let member = c.member-item.result in
    let inside : k < length members = omega arith in
    elim c.match-value_of.branch [
      | in-Some+in_ok-insert w ↦ λ v.
          let u = w.in-Some.value.now in
          ap (is_in v) w.values-is
          ∙ w.in_ok-insert.ensures.updates.0 (record { ref_ptr = (0, 0); now = v })
          ∙ (λ i. cond ((is_eq-slice_cmp u v ∙ nat_list_eq_equiv.symm u v) i) true (c.loop-member.invariant v i))
          ∙ or_cond (is_found v (Some u)) (is_value_of v (take k members))
          ∙ sym (value_more v members k member (Some u) inside c.member-item.is (w.in-Some.ensures v))
      | in_default w ↦ λ v.
          ap (is_in v) w.values-is ∙ c.loop-member.invariant v ∙ sym (or_false (is_value_of v (take k members)))
          ∙ sym (value_more v members k member None inside c.member-item.is (w.in_default.ensures v))
    ]
