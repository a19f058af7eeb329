use Rattle.std.proofs.Common.{◌≡◌, drop}
use Rattle.scim_cell.specs.Rows.{cell_at}
use Rattle.scim_json.proofs.writing.single_atom.Given as goal

-- what stands at the leaf is in the rows that are left
abbrev pub invariant-loop-row : goal.invariant-loop-row
invariant-loop-row l = cell_at l.leaf 0 l.own ≡ cell_at l.leaf 0 (drop l.row-index l.own)
