use Rattle.std.proofs.Common.{ℕ, Bool, true, false, List, ◌≡◌, ◌≤◌, not, take, sym, ap, subst, rules, is_lt}
use Rattle.std.specs.List.Sorted.{IsSorted, IsPartitionedBy, IsPartitionPoint}
use Rattle.std.proofs.lemmas.Fn.{always_returns_same}
use Rattle.std.proofs.lemmas.List.Sorted.{ranks_by}
use Rattle.scim_query.specs.declared.kept_parts.KeptPart.{KeptPart}
use Rattle.scim_query.specs.Order.{Rank, rank_cmp}
use Rattle.scim_query.specs.Pagers.{most_held}
use Rattle.scim_query.specs.code.Kept as code
use Rattle.scim_query.proofs.OrderLemmas.{rank_cmp_total}
use Rattle.scim_query.proofs.PlacedLemmas.{partitioned, placed_at, placed_past}
use Rattle.scim_query.proofs.kept_parts.place_in_order.Goals as goal

-- whether one that is held comes before what is ranked so, or ties with it
abbrev stays : Bool → Rank → KeptPart → Bool
stays descending r k = not (is_lt (rank_cmp descending r (code.kept_rank k)))

abbrev IsPoint : Bool → Rank → List KeptPart → ℕ → Type 0
IsPoint descending r held place = IsPartitionPoint (λ k. stays descending r k ≡ true) (λ k. stays descending r k ≡ false) held place

-- the point that is found in order by a rank is that of a part of this rank
point_of : (descending : Bool) (r : Rank) (part : KeptPart) (held : List KeptPart) (place : ℕ) → code.kept_rank part ≡ r → IsSorted (code.kept_cmp descending) held
    → (IsPartitionedBy (stays descending r) held → IsPoint descending r held place) → IsPoint descending (code.kept_rank part) held place
point_of descending r part held place same up found =
    let order = partitioned (code.comes_before descending) (ranks_by (rank_cmp_total descending) code.kept_rank) part held up in
    subst (λ (s : Rank). IsPoint descending s held place) (sym same) (found (subst (λ (s : Rank). IsPartitionedBy (stays descending s) held) same order))

pub returns-then-place-room_of-clause-place : goal.returns-then-place-room_of-clause-place
returns-then-place-room_of-clause-place c part same up =
    let descending = c.args.query.now.descending in
    let r : Rank = (c.args.key.now, c.args.id) in
    let point = point_of descending r part c.args.held.now c.partition_point-place.result same up
    (c.partition_point-place.ensures.partitioned (stays descending r) (always_returns_same _ _ _ (λ a r f k. search rules))) in
    ap (take (most_held c.args.query.now)) (sym (placed_at (code.comes_before descending) part c.args.held.now c.partition_point-place.result c.partition_point-place.ensures.bound point))

pub returns-else-place-room_of-clause-place : goal.returns-else-place-room_of-clause-place
returns-else-place-room_of-clause-place c part same up =
    let descending = c.args.query.now.descending in
    let r : Rank = (c.args.key.now, c.args.id) in
    let point = point_of descending r part c.args.held.now c.partition_point-place.result same up
    (c.partition_point-place.ensures.partitioned (stays descending r) (always_returns_same _ _ _ (λ a r f k. search rules))) in
    let past : most_held c.args.query.now ≤ c.partition_point-place.result = search rules in
    sym (placed_past (code.comes_before descending) (most_held c.args.query.now) part c.args.held.now c.partition_point-place.result past c.partition_point-place.ensures.bound point)
