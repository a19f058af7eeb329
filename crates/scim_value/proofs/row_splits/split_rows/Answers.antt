use Rattle.std.proofs.Common.{rules, sym, subst, not, ◌∙◌, ap, ◌++◌, List, [], refl, arith}
use Rattle.std.proofs.lemmas.List.{take-append-drop}
use Rattle.std.specs.Prelude.{AllPairs}
use Rattle.std.specs.Ordering.{is_lt, is_gt}
use Rattle.std.specs.List.Sorted.{IsPartitionedBy}
use Rattle.std.proofs.lemmas.List.Sorted.{IsPartitionPoint-from_clause}
use Rattle.scim_cell.specs.Place.{unit_cmp}
use Rattle.scim_cell.specs.Rows.{Row}
use Rattle.scim_value.proofs.SoundLemmas.{NotAfter, not_after, split_rows, partitioned_lt, partitioned_le, partitioned_drop, point_zero, first_after}
use Rattle.scim_value.proofs.row_splits.split_rows.Goals as goal

pub returns-then-not-begins_with_unit : goal.returns-then-not-begins_with_unit
returns-then-not-begins_with_unit c =
    let unit = c.args.unit in
    let rows = c.args.rows.now in
    let order : AllPairs NotAfter rows = not_after rows c.requires in
    let point = IsPartitionPoint-from_clause (λ (r : Row). is_lt (unit_cmp r.unit unit)) _ _ c.partition_point-start.ensures.partitioned
    (partitioned_lt unit rows order) (λ a r q k. search rules) in
    let rest : IsPartitionedBy (λ (r : Row). not (is_gt (unit_cmp r.unit unit))) c.split_at.result.1.now
    = subst (IsPartitionedBy (λ (r : Row). not (is_gt (unit_cmp r.unit unit)))) (sym c.split_at.ensures.back) (partitioned_drop (λ (r : Row). not (is_gt (unit_cmp r.unit unit))) rows c.partition_point-start.result (partitioned_le unit rows order)) in
    let none = point_zero (λ (r : Row). not (is_gt (unit_cmp r.unit unit))) c.split_at.result.1.now rest
    (first_after unit rows c.split_at.result.1.now c.partition_point-start.result c.split_at.ensures.back c.partition_point-start.ensures.bound point (sym c.begins_with_unit.ensures ∙ c.if-not-begins_with_unit.true)) in
    let r = split_rows unit rows c.split_at.result.0.now c.split_at.result.1.now [] c.split_at.result.1.now c.partition_point-start.result 0
    c.split_at.ensures.front c.split_at.ensures.back refl refl c.partition_point-start.ensures.bound (omega arith) point none in
    let all_is = (λ i. c.split_at.ensures.front i ++ c.split_at.ensures.back i) ∙ take-append-drop c.partition_point-start.result rows in
    record { before = r.0; own = r.1; after = r.2; whole = sym all_is }

pub returns : goal.returns
returns c =
    let unit = c.args.unit in
    let rows = c.args.rows.now in
    let order : AllPairs NotAfter rows = not_after rows c.requires in
    let point = IsPartitionPoint-from_clause (λ (r : Row). is_lt (unit_cmp r.unit unit)) _ _ c.partition_point-start.ensures.partitioned
    (partitioned_lt unit rows order) (λ a r q k. search rules) in
    let rest : IsPartitionedBy (λ (r : Row). not (is_gt (unit_cmp r.unit unit))) c.split_at.result.1.now
    = subst (IsPartitionedBy (λ (r : Row). not (is_gt (unit_cmp r.unit unit)))) (sym c.split_at.ensures.back) (partitioned_drop (λ (r : Row). not (is_gt (unit_cmp r.unit unit))) rows c.partition_point-start.result (partitioned_le unit rows order)) in
    let end = IsPartitionPoint-from_clause (λ (r : Row). not (is_gt (unit_cmp r.unit unit))) _ _ c.partition_point-end.ensures.partitioned rest (λ a r q k. search rules) in
    let r = split_rows unit rows c.split_at.result.0.now c.split_at.result.1.now c.split_at-2.result.0.now c.split_at-2.result.1.now c.partition_point-start.result c.partition_point-end.result
    c.split_at.ensures.front c.split_at.ensures.back c.split_at-2.ensures.front c.split_at-2.ensures.back c.partition_point-start.ensures.bound c.partition_point-end.ensures.bound point end in
    let rest_is = (λ i. c.split_at-2.ensures.front i ++ c.split_at-2.ensures.back i) ∙ take-append-drop c.partition_point-end.result c.split_at.result.1.now in
    let all_is = (λ i. c.split_at.ensures.front i ++ c.split_at.ensures.back i) ∙ take-append-drop c.partition_point-start.result rows in
    let whole = sym (ap (λ (rs : List Row). c.split_at.result.0.now ++ rs) rest_is ∙ all_is) in
    record { before = r.0; own = r.1; after = r.2; whole = whole }
