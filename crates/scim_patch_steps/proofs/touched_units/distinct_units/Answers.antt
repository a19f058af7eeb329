use Rattle.std.proofs.Common.{◌≡◌, ◌+◌, ◌∙◌, sym, ap, subst, arith, rules, None, true, get_or, take}
use Rattle.scim_schema.specs.declared.Unit.{Unit as AttributeUnit}
use Rattle.scim_schema.specs.declared.Attribute.TheVariants.{Id}
use Rattle.scim_patch_steps.specs.code.Touched.{PassTheSame, is_about}
use Rattle.scim_patch_steps.proofs.UnitLemmas.{units_pushed, units_same}
use Rattle.scim_patch_steps.proofs.touched_units.distinct_units.Goals.{then-not-is_one_of+in_ok-push, else-not-is_one_of}
use Rattle.scim_patch_steps.proofs.touched_units.distinct_units.Goals as goal

pub loop-unit-preserved : goal.loop-unit-preserved
loop-unit-preserved c =
    let all = c.deref-unit-items.result.now in
    let us = c.loop-unit.distinct.items in
    let k = c.loop-unit.unit-index in
    let d : AttributeUnit = record { attribute = Id; sub_attribute = None } in
    elim c.if-not-is_one_of.branch [
      | then-not-is_one_of+in_ok-push w ↦
          subst (λ vs. PassTheSame vs (take (k + 1) all)) (sym (ap (λ v. v.items) w.distinct-is ∙ w.in_ok-push.ensures.items)) (units_pushed us all k d (omega arith) c.loop-unit.invariant)
      | else-not-is_one_of w ↦
          let among : is_about us (get_or all k d) ≡ true = search rules in
          subst (λ v. PassTheSame v.items (take (k + 1) all)) (sym w.distinct-is) (units_same us all k d (omega arith) c.loop-unit.invariant among)
    ]
