use Rattle.std.proofs.Common.{true}
use Rattle.scim_filter.proofs.visible_rows.Look.has_field.Goals as goal

pub loop-field-init : goal.loop-field-init
loop-field-init g c = c.fields-field-items.ensures (λ f. true)
