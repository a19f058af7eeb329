use Rattle.std.proofs.Common.{◌≡◌, true, false, rules}
use Rattle.std.specs.List.{list_any}
use Rattle.scim_cell.specs.SameValues.{is_same_value}
use Rattle.scim_cell.proofs.KeyLemmas.{added, left_out}
use Rattle.scim_cell.proofs.distinct_values.with_few.Goals as goal

pub loop-value-preserved-in-Continue-1 : goal.loop-value-preserved-in-Continue-1
loop-value-preserved-in-Continue-1 c =
    let other : list_any (λ s. is_same_value c.args.attribute s c.in-Some.value) c.loop-value.values.items ≡ false = search rules in
    added c.args.attribute c.loop-value.values.items c.args.values.items c.loop-value.yielded _ c.in-Some.value c.loop-value.invariant other c.in_ok-push.ensures.items

pub loop-value-preserved : goal.loop-value-preserved
loop-value-preserved c =
    let same : list_any (λ s. is_same_value c.args.attribute s c.in-Some.value) c.loop-value.values.items ≡ true = search rules in
    left_out c.args.attribute c.loop-value.values.items c.args.values.items c.loop-value.yielded c.in-Some.value c.loop-value.invariant same
