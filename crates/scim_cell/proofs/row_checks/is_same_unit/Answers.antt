use Rattle.std.proofs.lemmas.Bool.Decides.{Decides-at}
use Rattle.scim_schema.proofs.Facts.{is_same_unit-Decides}
use Rattle.scim_cell.proofs.row_checks.is_same_unit.Goals as goal

pub returns : goal.returns
returns c = Decides-at _ _ c.eq.ensures (is_same_unit-Decides _ _)
