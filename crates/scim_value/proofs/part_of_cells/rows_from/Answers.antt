use Rattle.std.proofs.Common.{◌≡◌, ◌∙◌, ap, sym, List, [], ◌∷◌, ◌++◌}
use Rattle.std.specs.Prelude.{None, Some}
use Rattle.std.proofs.lemmas.List.{map-append}
use Rattle.scim_cell.specs.declared.places.Place.{Place}
use Rattle.scim_cell.specs.Content.{Entry, entry_of, entries_of}
use Rattle.scim_cell.specs.Rows.{rows_of}
use Rattle.scim_value.specs.code.Grouping.{grouped, joins}
use Rattle.scim_value.proofs.GroupLemmas.{last_place, rows_grouped, last_more}
use Rattle.scim_value.proofs.part_of_cells.rows_from.Goals as goal

pub loop-cell-preserved : goal.loop-cell-preserved
loop-cell-preserved c =
    let done : List Entry = entries_of c.loop-cell.yielded in
    let cell : Entry = entry_of c.in-Some.cell in
    let more : entries_of (c.loop-cell.yielded ++ c.in-Some.cell ∷ []) ≡ done ++ cell ∷ [] = map-append entry_of c.loop-cell.yielded (c.in-Some.cell ∷ []) in
    let joined : c.joins_last.result ≡ joins (last_place None done) cell.0
    = c.joins_last.ensures ∙ (λ i. joins (c.loop-cell.invariant.1 i) (c.place-place.ensures i)) in (
      c.in_ok-group_cell.ensures ∙ (λ i. grouped (joined i) cell (c.loop-cell.invariant.0 i)) ∙ sym (rows_grouped done cell) ∙ ap rows_of (sym more),
      ap (λ (p : Place). Some p) c.place-place.ensures ∙ sym (last_more None done cell) ∙ ap (last_place None) (sym more),
    )
