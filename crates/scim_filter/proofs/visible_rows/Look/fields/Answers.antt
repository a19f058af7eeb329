use Rattle.std.proofs.Common.{sym}
use Rattle.scim_cell.specs.declared.rows.Field.{Field}
use Rattle.scim_filter.specs.code.Looks.{admitted}
use Rattle.scim_filter.proofs.LookLemmas.{none_admitted}
use Rattle.scim_filter.proofs.visible_rows.Look.fields.Goals as goal

pub returns-in-Admitted : goal.returns-in-Admitted
unfolding admitted
returns-in-Admitted g c passes =
    rw c.in-Admitted.is (sym (none_admitted (λ (f : Field). g.T.RowTest.keeps c.in-Admitted.test.now c.args.row.now f.leaf) passes c.args.row.now.fields (λ f. c.may_keep.ensures c.if-not-may_keep.true f.leaf)))
