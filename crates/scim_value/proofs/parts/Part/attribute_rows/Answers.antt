use Rattle.std.proofs.Common.{rules, sym, subst, ◌∙◌}
use Rattle.std.specs.Prelude.{AllPairs}
use Rattle.std.specs.List.Sorted.{IsPartitionedBy}
use Rattle.std.proofs.lemmas.List.Sorted.{IsPartitionPoint-from_clause}
use Rattle.scim_value.proofs.OfLemmas.{sound_part}
use Rattle.scim_value.proofs.SoundLemmas.{NotAfter, not_after}
use Rattle.scim_value.proofs.AttributeLemmas.{is_before, is_upto, partitioned_before, partitioned_upto, own_rows, no_rows}
use Rattle.scim_value.proofs.parts.Part.attribute_rows.Goals as goal

pub returns-then-not-begins_with-clause-rows : goal.returns-then-not-begins_with-clause-rows
returns-then-not-begins_with-clause-rows c =
    let a = c.args.attribute in
    let rows = c.rows-rows.result.now in
    let order = subst (AllPairs NotAfter) (sym c.rows-rows.ensures.rows) (not_after _ (sound_part c.args.self.now c.rows-rows.ensures.valid).in_order) in
    let point = IsPartitionPoint-from_clause (is_before a) _ _ c.partition_point-start.ensures.partitioned (partitioned_before a rows order) (λ b r q k. search rules) in
    let rest : IsPartitionedBy (is_upto a) c.split_at.result.1.now
    = subst (IsPartitionedBy (is_upto a)) (sym c.split_at.ensures.back) (partitioned_upto a rows c.partition_point-start.result order) in
    rw (← c.rows-rows.ensures.rows) (no_rows a rows c.split_at.result.1.now c.partition_point-start.result c.split_at.ensures.back c.partition_point-start.ensures.bound point rest (sym c.begins_with.ensures ∙ c.if-not-begins_with.true))

pub returns-clause-rows : goal.returns-clause-rows
returns-clause-rows c =
    let a = c.args.attribute in
    let rows = c.rows-rows.result.now in
    let order = subst (AllPairs NotAfter) (sym c.rows-rows.ensures.rows) (not_after _ (sound_part c.args.self.now c.rows-rows.ensures.valid).in_order) in
    let point = IsPartitionPoint-from_clause (is_before a) _ _ c.partition_point-start.ensures.partitioned (partitioned_before a rows order) (λ b r q k. search rules) in
    let rest : IsPartitionedBy (is_upto a) c.split_at.result.1.now
    = subst (IsPartitionedBy (is_upto a)) (sym c.split_at.ensures.back) (partitioned_upto a rows c.partition_point-start.result order) in
    let end = IsPartitionPoint-from_clause (is_upto a) _ _ c.partition_point-end.ensures.partitioned rest (λ b r q k. search rules) in
    rw (← c.rows-rows.ensures.rows) (own_rows a rows c.split_at.result.1.now c.split_at-2.result.0.now c.partition_point-start.result c.partition_point-end.result
    c.split_at.ensures.back c.split_at-2.ensures.front c.partition_point-start.ensures.bound c.partition_point-end.ensures.bound point end)
