use Rattle.std.proofs.Common.{◌<◌, ◌||◌, sym, ◌∙◌, ap, true, cond, length, take, arith, refl}
use Rattle.std.specs.Ordering.{nat_cmp}
use Rattle.std.specs.Cmp.Lexicographic.{slice_cmp}
use Rattle.std.specs.BTreeSet.{contains}
use Rattle.scim_store.specs.Owners.{is_of, is_owner}
use Rattle.scim_store.proofs.IdTextLemmas.{owner_more, same_owner, same_or, or_false}
use Rattle.scim_store.proofs.row_owners.note_owners.Goals as goal
use Rattle.scim_store.proofs.row_owners.note_owners.Goals.{in-Some+in_ok-insert, in_default}

pub loop-row-preserved : goal.loop-row-preserved
loop-row-preserved c = λ id is.
    (let rows = c.args.rows.now in
    let k = c.loop-row.row-index in
    let row = c.row-item.result in
    let low : k < length rows = omega arith in
    let old = contains (slice_cmp nat_cmp) c.args.ids.now id in
    let so = is_owner (take k rows) id in
    elim c.match-owner_of.branch [
      | in-Some+in_ok-insert w ↦
          ap (λ s. contains (slice_cmp nat_cmp) s id) w.ids-is
          ∙ w.in_ok-insert.ensures.updates.0 id
          ∙ (λ i. cond (sym (same_owner w.in-Some.id id row w.in-Some.ensures.id is w.in-Some.ensures.some) i) true (c.loop-row.invariant id is i))
          ∙ same_or old so (is_of id row)
          ∙ ap (λ b. old || b) (sym (owner_more id rows k row low c.row-item.is))
      | in_default w ↦
          ap (λ s. contains (slice_cmp nat_cmp) s id) w.ids-is
          ∙ c.loop-row.invariant id is
          ∙ ap (λ b. old || b) (sym (or_false so) ∙ ap (λ b. so || b) (sym (w.in_default.ensures.none refl id is)) ∙ sym (owner_more id rows k row low c.row-item.is))
    ])
