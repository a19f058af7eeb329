use Rattle.std.proofs.Common.{drop}
use Rattle.std.specs.Prelude.{◌↔◌, None}
use Rattle.scim_cell.specs.Content.{entries_of}
use Rattle.scim_value.specs.code.Chain.{IsChain}
use Rattle.scim_value.proofs.cell_checks.is_chain.Given as goal

abbrev pub invariant-loop-cell : goal.invariant-loop-cell
invariant-loop-cell l = IsChain l.kind None (entries_of l.cells) ↔ IsChain l.kind l.before (entries_of (drop l.cell-index l.cells))
