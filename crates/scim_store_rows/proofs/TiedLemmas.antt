-- The texts of ids, as the database compares them.
use Rattle.std.proofs.Common.{◌≡◌, ◌≢◌, ℕ, ap, true, false, List}
use Rattle.std.specs.Ordering.{nat_cmp, is_eq}
use Rattle.std.specs.Cmp.Lexicographic.{slice_cmp}
use Rattle.std.proofs.lemmas.Cmp.{tied_itself, nat_list_cmp_total}
use Rattle.std.proofs.lemmas.Map.Lookups.{exact_bytes}
use Rattle.scim_cell.specs.Ids.{IsId, id_text}
use Rattle.scim_cell.proofs.Facts.{id_text-injective}
use Rattle.scim_shelf.proofs.Facts.{by_order}

-- a text is the same as itself
pub tied : (t : List ℕ) → is_eq (slice_cmp nat_cmp t t) ≡ true
tied t = ap is_eq (tied_itself nat_list_cmp_total t)

-- two ids have two texts
pub ids_apart : (x id : List ℕ) → IsId x → IsId id → x ≢ id → is_eq (slice_cmp nat_cmp (id_text x) (id_text id)) ≡ false
ids_apart x id one two differ =
    by_order (slice_cmp nat_cmp (id_text x) (id_text id))
    (λ h. ap is_eq h)
    (λ h. absurd (differ (id_text-injective x id one two (exact_bytes (id_text x) (id_text id) h))))
    (λ h. ap is_eq h)
