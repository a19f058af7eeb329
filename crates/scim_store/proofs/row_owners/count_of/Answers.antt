use Rattle.std.proofs.Common.{◌≡◌, ◌<◌, ◌-◌, true, get_or, length, sym, ap, ◌∙◌, subst, arith}
use Rattle.std.proofs.lemmas.List.{get_or_default}
use Rattle.std.specs.Ordering.{is_le, is_gt}
use Rattle.sqlite.specs.Order.{Row}
use Rattle.scim_store.proofs.OwnedLemmas.{against, parted_to, parted_at, above_no_more}
use Rattle.scim_store.proofs.row_owners.count_of.Goals as goal

pub returns-then-is_gt-clause-count : goal.returns-then-is_gt-clause-count
returns-then-is_gt-clause-count c = λ up.
    (let rows = c.args.rows.now in
    let text = c.args.text.now in
    let place = c.loop-place.place in
    let row = c.index-rows-place.result in
    let above : (d : Row) → place < length rows → is_gt (against text (get_or rows place d)) ≡ true =
    λ d less. ap (λ r. is_gt (against text r)) (get_or_default rows place d row less ∙ sym c.index-rows-place.is) ∙ ap is_gt (sym c.compare_owner.ensures) ∙ sym c.if-is_gt.ensures in
    parted_at (λ r. is_le (against text r)) rows place (parted_to text rows up) (record {
      within = omega (arith, c.loop-place-test.true);
      before = c.loop-place.invariant;
      behind = λ d less. above_no_more (against text (get_or rows place d)) (above d less);
    }))

pub returns-clause-count : goal.returns-clause-count
returns-clause-count c = λ up.
    (let rows = c.args.rows.now in
    let text = c.args.text.now in
    let all : c.loop-place.place ≡ length rows = omega arith in
    parted_at (λ r. is_le (against text r)) rows (length rows) (parted_to text rows up) (record {
      within = omega arith;
      before = subst (λ n. (d : Row) → 0 < n → is_le (against text (get_or rows (n - 1) d)) ≡ true) all c.loop-place.invariant;
      behind = λ d less. absurd (omega (arith, less));
    }))
