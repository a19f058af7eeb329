use Rattle.std.proofs.Common.{rules}
use Rattle.std.proofs.lemmas.List.Sorted.{IsPartitionPoint-from_clause}
use Rattle.std.specs.Ordering.{is_lt}
use Rattle.scim_cell.specs.Place.{unit_cmp}
use Rattle.scim_cell.specs.Rows.{Row}
use Rattle.scim_patch_steps.proofs.GroupLemmas.{partitioned}
use Rattle.scim_patch_steps.proofs.unit_rows.start_of.Goals as goal

pub returns-clause-point : goal.returns-clause-point
returns-clause-point c =
    IsPartitionPoint-from_clause (λ (r : Row). is_lt (unit_cmp r.unit c.args.unit)) _ _ c.partition_point.ensures.partitioned
    (partitioned c.args.unit c.args.rows.now c.requires) (λ a r q k. search rules)
