use Rattle.std.proofs.Common.{◌∙◌}
use Rattle.scim_filter.specs.code.Looks.{admitted, stays}
use Rattle.scim_filter.proofs.LookLemmas.{has_kept}
use Rattle.scim_filter.proofs.visible_rows.Look.stays.Goals as goal

pub returns-in-Admitted : goal.returns-in-Admitted
unfolding admitted stays
returns-in-Admitted g c =
    rw c.in-Admitted.is (rw c.in-Admitted.is at c.has_field.ensures ∙ has_kept (g.T.RowTest.keeps c.in-Admitted.field-0.now) c.args.row.now)
