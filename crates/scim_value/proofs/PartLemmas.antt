-- Sorted cells as a map and back.
use Rattle.std.proofs.Common.{◌≡◌, true, List}
use Rattle.std.specs.FinMap.{entries, is_sorted, from_sorted, entries-from_sorted}
use Rattle.std.proofs.lemmas.Float.{T_from_true}
use Rattle.scim_cell.specs.Place.{place_cmp}
use Rattle.scim_cell.specs.Content.{Entry}

pub entries-from_true : (es : List Entry) → is_sorted place_cmp es ≡ true → entries (from_sorted {R = place_cmp} es) ≡ es
entries-from_true es h = entries-from_sorted place_cmp es (T_from_true _ h)
