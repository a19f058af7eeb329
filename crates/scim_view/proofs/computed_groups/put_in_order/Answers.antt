use Rattle.std.proofs.Common.{◌∙◌, sym, ap, map, rules, is_lt, Ordering}
use Rattle.std.specs.Cmp.{IsTotalOrder}
use Rattle.std.proofs.lemmas.Cmp.{nat_list_cmp_total, on_total}
use Rattle.std.proofs.lemmas.Fn.{always_returns_same}
use Rattle.std.proofs.lemmas.List.Sorted.{ranks_by}
use denote.Ref.{Bor}
use Rattle.scim_view.specs.declared.computed_groups.SeenGroup.{SeenGroup}
use Rattle.scim_view.specs.code.Memberships.{kept_cmp}
use Rattle.scim_view.proofs.SortLemmas.{sorted_is-sorted_by, sorted_by-map}
use Rattle.scim_view.proofs.computed_groups.put_in_order.Goals as goal

abbrev lent_cmp : Bor SeenGroup → Bor SeenGroup → Ordering
lent_cmp a b = kept_cmp a.now b.now

lent_total : IsTotalOrder lent_cmp
lent_total = on_total (λ (g : Bor SeenGroup). g.now.id) nat_list_cmp_total

pub returns : goal.returns
returns c =
    let sorted = c.in_ok-sort_by.ensures.sorted (λ a b. is_lt (lent_cmp a b)) (ranks_by nat_list_cmp_total (λ (g : Bor SeenGroup). g.now.id)) (always_returns_same _ _ _ (λ a r f k. search rules)) in
    let stable = c.in_ok-sort_by.ensures.stable (λ a b. is_lt (lent_cmp a b)) (ranks_by nat_list_cmp_total (λ (g : Bor SeenGroup). g.now.id)) (always_returns_same _ _ _ (λ a r f k. search rules)) in
    ap (map (λ (g : Bor SeenGroup). g.now)) (sorted_is-sorted_by lent_cmp lent_total c.args.groups.now.items _ sorted stable)
    ∙ sym (sorted_by-map kept_cmp (λ (g : Bor SeenGroup). g.now) c.args.groups.now.items)
