-- Parts that are shown whole.
use Rattle.std.proofs.Common.{◌≡◌, refl, sym, true}
use Rattle.std.specs.List.{list_all}
use Rattle.scim_cell.specs.Content.{Content, IsPart}
use Rattle.scim_cell.specs.Rows.{rows}
use Rattle.scim_value.proofs.Facts.{sound_part}
use Rattle.scim_view.specs.declared.projection.Wanted.{Wanted}
use Rattle.scim_view.specs.Shown.{shows, shown}
use Rattle.scim_view.proofs.PartLemmas.{part_of_rows, passed_rows}

-- a part of which each field is shown is shown as it is
pub shown_whole : (w : Wanted) (v : Content) → IsPart v → list_all (λ r. list_all (λ f. shows w v.kind f.leaf) r.fields) (rows v) ≡ true → v ≡ shown w v
unfolding shown
shown_whole w v valid all =
    part_of_rows v v.kind v.id _ valid refl refl (sym (passed_rows (shows w v.kind) (rows v) all (sound_part v valid).full))
