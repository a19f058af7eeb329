use Rattle.std.proofs.Common.{◌≡◌, sym, subst, rules}
use Rattle.std.specs.Prelude.{Ok, Err}
use Rattle.std.specs.List.{insert}
use Rattle.scim_text.specs.Failures.{UnlessMemory, IfBecause}
use Rattle.scim_patch_steps.specs.declared.unit_rows.UnitRows.{UnitRows}
use Rattle.scim_patch_steps.specs.Changes.{change_of}
use Rattle.scim_patch_steps.specs.Patch.{IsStep, stepped}
use Rattle.scim_patch_steps.specs.Kept.{step_of}
use Rattle.scim_patch_steps.specs.code.Groups.{joined, left_in, AreGroups}
use Rattle.scim_patch_steps.proofs.GroupStepLemmas.{index_fits, step_refused, step_made, step_groups}
use Rattle.scim_patch_steps.proofs.applying.stepped.Goals as goal

pub insert-requires : goal.insert-requires
insert-requires c = index_fits c.in-Of.unit c.args.groups.now.items c.taken-index.result.0 c.taken-index.result.1.items c.taken-index.new.groups.items c.taken-index.ensures

pub returns-in_err-rows-clause-rows : goal.returns-in_err-rows-clause-rows
returns-in_err-rows-clause-rows c =
    let same : c.from_residual.result ≡ Err c.in_err-rows.field-0.0 = search rules in
    let fault = step_refused c.in-Of.unit c.args.groups.now.items c.taken-index.result.0 c.taken-index.result.1.items c.taken-index.new.groups.items c.taken-index.ensures
    c.args.kind (change_of c.in-Of.change) c.in_err-rows.field-0.0 c.in_err-rows.ensures in
    subst (UnlessMemory (λ r. left_in c.taken-index.new.groups.items r ≡ stepped c.args.kind (step_of c.args.step.now) (joined c.args.groups.now.items))) (sym same)
    (subst (λ s. IfBecause (λ e. Err e ≡ stepped c.args.kind (step_of s) (joined c.args.groups.now.items)) c.in_err-rows.field-0.0) (sym c.in-Of.is) fault)

pub returns-clause-rows : goal.returns-clause-rows
returns-clause-rows c =
    let g : UnitRows = record { unit = c.in-Of.unit; rows = c.in_ok-rows.rows } in
    let made = step_made c.in-Of.unit c.args.groups.now.items c.taken-index.result.0 c.taken-index.result.1.items c.taken-index.new.groups.items c.taken-index.ensures
    c.args.kind (change_of c.in-Of.change) g c.in_ok-rows.ensures in
    subst (λ gs. Ok (joined gs) ≡ stepped c.args.kind (step_of c.args.step.now) (joined c.args.groups.now.items)) (sym c.in_ok-insert.ensures)
    (subst (λ s. Ok (joined (insert c.taken-index.new.groups.items c.taken-index.result.0 g)) ≡ stepped c.args.kind (step_of s) (joined c.args.groups.now.items)) (sym c.in-Of.is) made)

pub returns-clause-groups : goal.returns-clause-groups
returns-clause-groups c =
    let g : UnitRows = record { unit = c.in-Of.unit; rows = c.in_ok-rows.rows } in
    let step = subst (λ s. IsStep c.args.kind (step_of s)) c.in-Of.is c.requires.step in
    subst AreGroups (sym c.in_ok-insert.ensures)
    (step_groups c.in-Of.unit c.args.groups.now.items c.taken-index.result.0 c.taken-index.result.1.items c.taken-index.new.groups.items c.taken-index.ensures
    c.args.kind (change_of c.in-Of.change) c.requires.rows step g (λ i. c.in-Of.unit) c.in_ok-rows.ensures)

-- by name, so that a body that breaks it is refused at once
pub returns-in_default-clause-rows : goal.returns-in_default-clause-rows
returns-in_default-clause-rows c = search rules
