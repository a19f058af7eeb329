use Rattle.std.proofs.Common.{true, ◌&&◌}
use Rattle.scim_schema.specs.Units.{is_same_leaf}
use Rattle.scim_filter.proofs.truth.has_cell.Goals as goal

pub loop-field-init : goal.loop-field-init
loop-field-init g c = c.fields-field-items.ensures (λ f. is_same_leaf f.leaf c.args.leaf && true)
