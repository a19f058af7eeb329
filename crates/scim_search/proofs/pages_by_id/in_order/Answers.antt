use Rattle.std.proofs.Common.{rules, ◌≡◌, sym, ◌∙◌, subst, ℕ, List, map}
use Rattle.std.specs.List.Sorted.{IsStrictlySortedBy}
use Rattle.std.specs.Ordering.{nat_cmp}
use Rattle.std.specs.Cmp.Lexicographic.{slice_cmp}
use Rattle.std.proofs.lemmas.Map.Iter.{iter_end}
use Rattle.scim_search.proofs.pages_by_id.in_order.Goals as goal

pub returns-clause-ids : goal.returns-clause-ids
returns-clause-ids c =
    let all : map (λ id. id.now) c.loop-id.yielded ≡ c.args.ids.now.keys = search (rules, iter_end) in
    c.loop-id.invariant ∙ all

pub returns-clause-ascending : goal.returns-clause-ascending
returns-clause-ascending c =
    let all : map (λ id. id.now) c.loop-id.yielded ≡ c.args.ids.now.keys = search (rules, iter_end) in
    subst (λ (ids : List (List ℕ)). IsStrictlySortedBy (slice_cmp nat_cmp) ids) (sym (c.loop-id.invariant ∙ all)) c.into_iter-id-iterator.ensures.into_iter_gives.4
