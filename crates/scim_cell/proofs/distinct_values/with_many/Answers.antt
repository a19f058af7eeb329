use Rattle.std.proofs.Common.{sym, ◌∙◌, ap}
use Rattle.scim_cell.specs.SameValues.{with_value}
use Rattle.scim_cell.proofs.KeyLemmas.{with_values_more}
use Rattle.scim_cell.proofs.distinct_values.with_many.Goals as goal

pub loop-value-preserved : goal.loop-value-preserved
loop-value-preserved c = record {
  so_far =
      c.in_ok-add_value.ensures.items
      ∙ ap (λ values. with_value c.args.attribute values c.in-Some.value) c.loop-value.invariant.so_far
      ∙ sym (with_values_more c.args.attribute c.args.values.items c.loop-value.yielded c.in-Some.value);
  covered = c.in_ok-add_value.ensures.covers;
}
