use Rattle.scim_value.proofs.ChainLemmas.{is_sorted-chain, ArePartCells-chain, chain-ArePartCells}
use Rattle.scim_value.proofs.cell_checks.are_sorted_part_cells.Goals as goal

pub returns : goal.returns
returns c = (
  λ t. (is_sorted-chain _ _ _ (c.is_chain.ensures.0 t), ArePartCells-chain _ _ (c.is_chain.ensures.0 t)),
  λ h. c.is_chain.ensures.1 (chain-ArePartCells _ _ h.0 h.1),
)
