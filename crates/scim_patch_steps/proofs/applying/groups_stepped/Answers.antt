use Rattle.std.proofs.Common.{◌≡◌, sym, subst, arith, rules}
use Rattle.std.specs.Prelude.{Ok, Err, map}
use Rattle.scim_text.specs.Failures.{UnlessMemory, IfBecause}
use Rattle.scim_patch_steps.specs.Patch.{IsStep, stepped, all_stepped}
use Rattle.scim_patch_steps.specs.Kept.{step_of}
use Rattle.scim_patch_steps.specs.code.Groups.{joined, left_in}
use Rattle.scim_patch_steps.proofs.ApplyLemmas.{step_at, fault_of_all}
use Rattle.scim_patch_steps.proofs.GroupStepLemmas.{of_resource_again, step_more}
use Rattle.scim_patch_steps.proofs.applying.groups_stepped.Goals as goal

pub stepped-requires-clause-step : goal.stepped-requires-clause-step
stepped-requires-clause-step c =
    let at = step_at c.args.kind c.args.steps.now c.loop-step.step-index c.step-item.result c.requires.steps (omega arith) in
    subst (λ s. IsStep c.args.kind (step_of s)) (sym c.step-item.is) at

pub returns-in_err-stepped : goal.returns-in_err-stepped
returns-in_err-stepped c =
    let same : c.from_residual.result ≡ Err c.in_err-stepped.field-0.0 = search rules in
    let own = subst (λ s. IfBecause (λ e. Err e ≡ stepped c.args.kind (step_of s) (joined c.loop-step.groups.items)) c.in_err-stepped.field-0.0) c.step-item.is c.in_err-stepped.ensures.rows in
    subst (UnlessMemory (λ r. left_in c.stepped.new.groups.items r ≡ all_stepped c.args.kind (map step_of c.args.steps.now) (Ok (joined c.args.groups.now.items)))) (sym same)
    (fault_of_all c.args.kind c.args.steps.now c.loop-step.step-index c.step-item.result (joined c.loop-step.groups.items) _ (omega arith) c.loop-step.invariant.so_far c.in_err-stepped.field-0.0 own)

pub loop-step-preserved : goal.loop-step-preserved
loop-step-preserved c =
    let at = step_at c.args.kind c.args.steps.now c.loop-step.step-index c.step-item.result c.requires.steps (omega arith) in
    let may = subst (λ s. IsStep c.args.kind (step_of s)) (sym c.step-item.is) at in
    record {
      so_far = step_more c.args.kind c.args.steps.now c.loop-step.step-index c.step-item.result (joined c.loop-step.groups.items) (joined c.stepped.new.groups.items) _ (omega arith) c.step-item.is c.loop-step.invariant.so_far c.in_ok-stepped.ensures.rows;
      groups = c.in_ok-stepped.ensures.groups;
      rows = of_resource_again c.args.kind (joined c.loop-step.groups.items) c.loop-step.invariant.rows (step_of c.step-item.result) (joined c.stepped.new.groups.items) may c.in_ok-stepped.ensures.rows;
    }
