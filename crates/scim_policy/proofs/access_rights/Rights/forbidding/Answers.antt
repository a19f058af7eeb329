use Rattle.std.proofs.Common.{◌∙◌, sym, ap, List}
use Rattle.scim_schema.specs.declared.Leaf.{Leaf}
use Rattle.scim_schema.specs.declared.Unit.{Unit as AttributeUnit}
use Rattle.scim_schema.specs.Units.{is_same_unit}
use Rattle.scim_policy.specs.Access.{forbidding}
use Rattle.scim_policy.specs.PatternTable.{access_in}
use Rattle.scim_policy.proofs.AccessLemmas.{denied_at, denied_found, denied_missed, denied_beside}
use Rattle.scim_policy.proofs.access_rights.Rights.forbidding.Goals as goal
use Rattle.scim_policy.proofs.access_rights.Rights.forbidding.Goals.{then-eq+else-is_some, else-eq}

pub returns-then-is_some : goal.returns-then-is_some
unfolding forbidding
returns-then-is_some c =
    let own = ap (λ (v : AttributeUnit). is_same_unit v c.args.unit) (sym c.unit_of.ensures) ∙ sym c.eq.ensures ∙ c.if-eq.true in
    sym (denied_found c.args.kind (access_in c.args.self.now) c.args.unit c.leaves-leaf-items.result.now c.loop-leaf.leaf-index _ c.forbidden-forbidden.result
    c.loop-leaf-test.true own c.forbidden-forbidden.ensures (sym c.is_some.ensures ∙ c.if-is_some.true))
    ∙ c.loop-leaf.invariant
    ∙ ap (λ (ls : List Leaf). denied_at c.args.kind (access_in c.args.self.now) c.args.unit ls) c.leaves-leaf-items.ensures

pub loop-leaf-preserved : goal.loop-leaf-preserved
loop-leaf-preserved c =
    let is_own = ap (λ (v : AttributeUnit). is_same_unit v c.args.unit) (sym c.unit_of.ensures) ∙ sym c.eq.ensures in
    elim c.if-eq.branch [
      | then-eq+else-is_some w ↦ (
          denied_missed c.args.kind (access_in c.args.self.now) c.args.unit c.leaves-leaf-items.result.now c.loop-leaf.leaf-index _ w.forbidden-forbidden.result
          c.loop-leaf-test.true (is_own ∙ w.if-eq.true) w.forbidden-forbidden.ensures (sym w.is_some.ensures ∙ w.if-is_some.false)
          ∙ c.loop-leaf.invariant
          )
      | else-eq w ↦ (
          denied_beside c.args.kind (access_in c.args.self.now) c.args.unit c.leaves-leaf-items.result.now c.loop-leaf.leaf-index _ c.loop-leaf-test.true (is_own ∙ w.if-eq.false)
          ∙ c.loop-leaf.invariant
          )
    ]
