use Rattle.std.proofs.Common.{◌≡◌, ◌∙◌, ap}
use Rattle.std.specs.Prelude.{None}
use Rattle.std.specs.FinMap.{entries}
use Rattle.std.proofs.lemmas.Result.{IfOk-weaker}
use Rattle.scim_cell.specs.Content.{entries_of}
use Rattle.scim_cell.specs.Rows.{numbered}
use Rattle.scim_value.proofs.RowLemmas.{numbered_part}
use Rattle.scim_value.proofs.parts.Part.cells.Goals as goal

pub returns-clause-cells : goal.returns-clause-cells
returns-clause-cells c =
    IfOk-weaker c.cells_of.result _ (λ v. entries_of v.items ≡ entries c.args.self.now.cells)
    (λ v e. e ∙ ap (numbered None) c.rows.ensures.rows ∙ numbered_part c.args.self.now c.rows.ensures.valid) c.cells_of.ensures
