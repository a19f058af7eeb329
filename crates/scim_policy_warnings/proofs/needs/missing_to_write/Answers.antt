use Rattle.std.proofs.Common.{◌≡◌, sym, ap, ◌∙◌, ◌+◌, Bool, true, false, drop, get_or}
use Rattle.std.specs.Prelude.{find, is_some}
use Rattle.std.proofs.lemmas.List.{drop_more}
use Rattle.scim_schema.specs.declared.Attribute.TheVariants.{Id}
use Rattle.scim_schema.specs.declared.Leaf.{Leaf}
use Rattle.scim_schema.specs.declared.Unit.{Unit as AttributeUnit}
use Rattle.scim_schema.specs.Units.{simple, is_same_unit, unit_of}
use Rattle.scim_policy_warnings.specs.Needs.{is_missing, needed_at}
use Rattle.scim_policy_warnings.proofs.NeedLemmas.{at_first, behind_first, first_at, past_other}
use Rattle.scim_policy_warnings.proofs.needs.missing_to_write.Goals.{then-eq+else-is_some, else-eq}
use Rattle.scim_policy_warnings.proofs.needs.missing_to_write.Goals as goal

pub returns-then-is_some : goal.returns-then-is_some
returns-then-is_some c =
    let a = c.args in
    let ls = c.leaves-leaf-items.result.now in
    let lacks = is_missing a.rules.now a.client.now a.kind in
    let f = needed_at a.op a.kind in
    let t : Leaf → Bool = λ m. is_same_unit (unit_of m) a.unit in
    let l = get_or ls c.loop-leaf.leaf-index (simple Id) in
    let is : t l ≡ true = ap (λ (u : AttributeUnit). is_same_unit u a.unit) (sym c.unit_of.ensures) ∙ sym c.eq.ensures ∙ c.if-eq.true in
    let found : is_some (find lacks (f l)) ≡ true = ap is_some (sym c.missing_at-found.ensures) ∙ sym c.is_some.ensures ∙ c.if-is_some.true in
    c.missing_at-found.ensures
    ∙ sym (at_first lacks f t l (drop (c.loop-leaf.leaf-index + 1) ls) is found)
    ∙ sym (ap (first_at lacks f t) (drop_more ls c.loop-leaf.leaf-index (simple Id) c.loop-leaf-test.true))
    ∙ c.loop-leaf.invariant
    ∙ ap (first_at lacks f t) c.leaves-leaf-items.ensures

pub loop-leaf-preserved : goal.loop-leaf-preserved
loop-leaf-preserved c =
    let a = c.args in
    let ls = c.leaves-leaf-items.result.now in
    let lacks = is_missing a.rules.now a.client.now a.kind in
    let f = needed_at a.op a.kind in
    let t : Leaf → Bool = λ m. is_same_unit (unit_of m) a.unit in
    let l = get_or ls c.loop-leaf.leaf-index (simple Id) in
    let behind = drop (c.loop-leaf.leaf-index + 1) ls in
    let before = sym (ap (first_at lacks f t) (drop_more ls c.loop-leaf.leaf-index (simple Id) c.loop-leaf-test.true)) ∙ c.loop-leaf.invariant in
    elim c.if-eq.branch [
      | then-eq+else-is_some w ↦ (
          let is : t l ≡ true = ap (λ (u : AttributeUnit). is_same_unit u a.unit) (sym c.unit_of.ensures) ∙ sym c.eq.ensures ∙ w.if-eq.true in
          let none : is_some (find lacks (f l)) ≡ false = ap is_some (sym w.missing_at-found.ensures) ∙ sym w.is_some.ensures ∙ w.if-is_some.false in
          sym (behind_first lacks f t l behind is none) ∙ before
          )
      | else-eq w ↦ (
          let other : t l ≡ false = ap (λ (u : AttributeUnit). is_same_unit u a.unit) (sym c.unit_of.ensures) ∙ sym c.eq.ensures ∙ w.if-eq.false in
          sym (past_other lacks f t l behind other) ∙ before
          )
    ]
