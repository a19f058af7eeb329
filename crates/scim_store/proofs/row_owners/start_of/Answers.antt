use Rattle.std.proofs.Common.{rules}
use Rattle.std.specs.Ordering.{is_lt}
use Rattle.std.proofs.lemmas.List.Sorted.{IsPartitionPoint-from_clause}
use Rattle.scim_store.proofs.OwnedLemmas.{against, parted_below, parted_at}
use Rattle.scim_store.proofs.row_owners.start_of.Goals as goal

pub returns-then-is_start-clause-start : goal.returns-then-is_start-clause-start
returns-then-is_start-clause-start c = λ up. parted_at (λ r. is_lt (against c.args.text.now r)) c.args.rows.now c.args.near (parted_below c.args.text.now c.args.rows.now up) (c.is_start.ensures c.if-is_start.true)

pub returns-clause-start : goal.returns-clause-start
returns-clause-start c = λ up. IsPartitionPoint-from_clause (λ r. is_lt (against c.args.text.now r)) _ _ c.partition_point.ensures.partitioned (parted_below c.args.text.now c.args.rows.now up) (λ a r q k. search rules)
