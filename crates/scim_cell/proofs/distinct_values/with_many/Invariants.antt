use Rattle.std.proofs.Common.{◌≡◌}
use Rattle.scim_cell.specs.SameValues.{with_values}
use Rattle.scim_cell.specs.code.Keys.{Covers}
use Rattle.scim_cell.proofs.distinct_values.with_many.Given as goal

-- the values so far are those that were there, and those that were yielded, each once, and the places are theirs
abbrev pub invariant-loop-value : goal.invariant-loop-value
invariant-loop-value l = record {
  so_far : l.values.items ≡ with_values l.attribute l.fn.values.items l.yielded;
  covered : Covers l.places l.attribute l.values.items;
}
