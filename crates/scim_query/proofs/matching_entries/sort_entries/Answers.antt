use Rattle.std.proofs.Common.{rules, is_lt}
use Rattle.std.proofs.lemmas.List.Sorted.{ranks_by}
use Rattle.std.proofs.lemmas.Fn.{always_returns_same}
use Rattle.scim_query.specs.code.Entries.{entry_cmp, entry_rank}
use Rattle.scim_query.proofs.OrderLemmas.{rank_cmp_total}
use Rattle.scim_query.proofs.matching_entries.sort_entries.Goals as goal

pub returns-clause-in_order : goal.returns-clause-in_order
returns-clause-in_order c =
    c.in_ok-sort_by.ensures.sorted (λ a b. is_lt (entry_cmp c.args.descending a b)) (ranks_by (rank_cmp_total c.args.descending) entry_rank) (always_returns_same _ _ _ (λ a r f k. search rules))

pub returns-clause-stable : goal.returns-clause-stable
returns-clause-stable c =
    c.in_ok-sort_by.ensures.stable (λ a b. is_lt (entry_cmp c.args.descending a b)) (ranks_by (rank_cmp_total c.args.descending) entry_rank) (always_returns_same _ _ _ (λ a r f k. search rules))
