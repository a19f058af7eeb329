use Rattle.std.proofs.Common.{◌≡◌, sym, subst, false, arith}
use Rattle.std.specs.Prelude.{map, nat_le, ◌-◌, ◌^◌}
use Rattle.std.specs.List.{sum_by}
use Rattle.scim_cell.specs.Rows.{rows}
use Rattle.scim_patch_steps.specs.declared.work.TheConstants.{MOST_WORK}
use Rattle.scim_patch_steps.specs.Patch.{given_in, set_in, step_work}
use Rattle.scim_patch_steps.specs.Kept.{step_of}
use Rattle.scim_patch_steps.proofs.WorkLemmas.{all_over}
use Rattle.scim_patch_steps.proofs.work.is_within_limit.Goals as goal

pub returns-then-work-gt-MOST_WORK : goal.returns-then-work-gt-MOST_WORK
returns-then-work-gt-MOST_WORK c =
    let steps = c.steps-steps.result.now in
    let size = sum_by given_in (map step_of steps) in
    let set = sum_by set_in (map step_of steps) in
    let own = c.step_work.ensures size set c.all_given-given.ensures c.all_set-set.ensures in
    let over = all_over (step_work c.kind-kind.result size set (rows c.args.part.now)) steps c.loop-step.step-index c.step-item.result MOST_WORK (2 ^ 64 - 1)
    c.loop-step.work c.step_work.result c.saturating_add-work.result (omega arith) c.step-item.is
    c.loop-step.invariant.so_far own c.saturating_add-work.ensures c.if-work-gt-MOST_WORK.true in
    let same = subst (λ k. nat_le (sum_by (step_work k size set (rows c.args.part.now)) (map step_of steps)) MOST_WORK ≡ false) c.kind-kind.ensures over in
    sym (subst (λ ss. nat_le (sum_by (step_work c.args.patch.now.kind (sum_by given_in (map step_of ss)) (sum_by set_in (map step_of ss)) (rows c.args.part.now)) (map step_of ss)) MOST_WORK ≡ false) c.steps-steps.ensures.steps same)
