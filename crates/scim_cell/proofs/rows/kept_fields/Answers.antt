use Rattle.std.proofs.Common.{◌∙◌, refl, sym}
use Rattle.scim_cell.proofs.KeptLemmas.{none_kept}
use Rattle.scim_cell.proofs.rows.kept_fields.Goals as goal

pub returns-then-not-may_keep : goal.returns-then-not-may_keep
returns-then-not-may_keep g c =
    c.new.ensures.items ∙ sym (none_kept (g.T.RowTest.keeps c.args.test.now c.args.row.now) c.args.row.now.fields (c.if-not-may_keep.ensures refl))
