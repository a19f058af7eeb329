use Rattle.std.proofs.Common.{◌&&◌}
use Rattle.scim_schema.specs.Units.{is_same_leaf}
use Rattle.scim_filter.specs.Relation.{stands}
use Rattle.scim_filter.proofs.truth.fields_stand.Goals as goal

pub loop-field-init : goal.loop-field-init
loop-field-init g c = c.fields-field-items.ensures (λ f. is_same_leaf f.leaf c.args.leaf && stands c.args.exact c.args.op f.atom c.args.literal.now)
