use Rattle.std.proofs.Common.{◌≡◌, true, false, sym, ◌∙◌, ap, subst, ◌-◌, ◌≤◌, length, drop, take, ◌∷◌, [], arith}
use Rattle.std.specs.List.Sorted.{IsPartitionPoint}
use Rattle.std.specs.Ordering.{is_le}
use Rattle.std.proofs.lemmas.List.{take_all, length-drop}
use Rattle.scim_store_tables.specs.Reading.{DoNotFall}
use Rattle.scim_store.proofs.OwnedLemmas.{against, ascending-drop, run}
use Rattle.scim_store.proofs.row_owners.rows_of.Goals as goal

pub returns : goal.returns
returns c = λ up.
    (let rows = c.args.rows.now in
    let text = c.args.text.now in
    let s = c.start_of-start.result in
    let n = c.count_of-count.result in
    let l = length-drop s rows in
    let whole : take (length rows - s) (drop s rows) ≡ drop s rows = take_all (length rows - s) (drop s rows) (omega (arith, l)) in
    let two = c.count_of-count.ensures.count (subst (DoNotFall (0 ∷ [])) (sym whole) (ascending-drop s rows up)) in
    ap (take n) whole
    ∙ run text rows s n c.start_of-start.ensures.within (subst (λ rs. n ≤ length rs) whole c.count_of-count.ensures.within) (c.start_of-start.ensures.start up)
    (subst (λ rs. IsPartitionPoint (λ r. is_le (against text r) ≡ true) (λ r. is_le (against text r) ≡ false) rs n) whole two))
