use Rattle.std.proofs.Common.{sym, subst, take}
use Rattle.std.specs.Prelude.{AllPairs}
use Rattle.std.proofs.lemmas.List.Kept.{AllPairs-filter}
use Rattle.scim_cell.specs.Rows.{Row}
use Rattle.scim_value.proofs.Facts.{sound_part}
use Rattle.scim_patch_steps.specs.code.Touched.{is_about}
use Rattle.scim_patch_steps.proofs.GroupLemmas.{Before, pairs_take}
use Rattle.scim_patch_steps.proofs.touched_units.rows_of.Goals as goal

pub returns-clause-sorted : goal.returns-clause-sorted
returns-clause-sorted c =
    let rows = c.rows-row-items.result.now in
    let k = c.loop-row.row-index in
    let pairs : AllPairs Before rows = subst (AllPairs Before) (sym c.rows-row-items.ensures.rows) (sound_part c.args.part.now c.rows-row-items.ensures.valid).in_order in
    subst (AllPairs Before) (sym c.loop-row.invariant) (AllPairs-filter Before (λ (r : Row). is_about c.args.units.now r.unit) (take k rows) (pairs_take Before k rows pairs))
