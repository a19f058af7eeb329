-- What a map by id has, as resources come and go.
use Rattle.std.proofs.Common.{◌≡◌, refl, sym, ◌∙◌, ap, ℕ, cond, List, [], ◌∷◌, map}
use Rattle.std.specs.Prelude.{find, Option, Some}
use Rattle.std.specs.Map.{lookup, remove_entry}
use Rattle.std.specs.BTreeMap.{insert_entry, is_at}
use Rattle.std.specs.Ordering.{nat_cmp}
use Rattle.std.specs.Cmp.Lexicographic.{slice_cmp}
use Rattle.std.proofs.lemmas.Map.Lookups.{exact_bytes}
use Rattle.scim_cell.specs.Content.{Content}
use Rattle.scim_cell.specs.Order.{id_cmp}
use Rattle.scim_shelf.specs.Stores.{AreKeyed, keep, without}
use Rattle.scim_shelf.specs.Indexed.{has_id, keyed}
use Rattle.scim_shelf.proofs.PlaceLemmas.{AreAbove, by_order, above_lower, keep_less, keep_equal, keep_greater, without_less, without_equal, without_greater}
use Rattle.scim_shelf.proofs.StoreLemmas.{keyed_above, keyed_tail}

pub lookup_keyed : (id : List ℕ) (cs : List Content) → lookup (is_at (slice_cmp nat_cmp id)) (map keyed cs) ≡ find (has_id id) cs
lookup_keyed id [] = refl
lookup_keyed id (c ∷ cs) = ap (λ (o : Option Content). cond (has_id id c) (Some c) o) (lookup_keyed id cs)

pub insert_keyed : (c : Content) (cs : List Content) → AreKeyed cs → insert_entry (slice_cmp nat_cmp) (map keyed cs) c.id c ≡ map keyed (keep c cs)
insert_keyed c [] apart = refl
insert_keyed c (d ∷ ds) apart = go (insert_keyed c ds (keyed_tail d ds apart))
  where
    up : AreAbove d.id ds
    up = keyed_above d ds apart

    go : insert_entry (slice_cmp nat_cmp) (map keyed ds) c.id c ≡ map keyed (keep c ds)
        → insert_entry (slice_cmp nat_cmp) (map keyed (d ∷ ds)) c.id c ≡ map keyed (keep c (d ∷ ds))
    go rest =
        by_order (id_cmp c d)
        (λ h. rw h (ap (map keyed) (sym (keep_less c d ds h up))))
        (λ h. rw h ((λ i. (sym (exact_bytes c.id d.id h) i, c) ∷ map keyed ds) ∙ ap (map keyed) (sym (keep_equal c d ds h up))))
        (λ h. rw h (ap (λ (es : List (List ℕ × Content)). keyed d ∷ es) rest ∙ ap (map keyed) (sym (keep_greater c d ds h))))

remove_above : (id : List ℕ) (cs : List Content) → AreAbove id cs → remove_entry (is_at (slice_cmp nat_cmp id)) (map keyed cs) ≡ map keyed cs
remove_above id [] up = refl
remove_above id (c ∷ cs) up = rw up.0 (ap (λ (es : List (List ℕ × Content)). keyed c ∷ es) (remove_above id cs up.1))

pub remove_keyed : (id : List ℕ) (cs : List Content) → AreKeyed cs → remove_entry (is_at (slice_cmp nat_cmp id)) (map keyed cs) ≡ map keyed (without id cs)
remove_keyed id [] apart = refl
remove_keyed id (d ∷ ds) apart = go (remove_keyed id ds (keyed_tail d ds apart))
  where
    up : AreAbove d.id ds
    up = keyed_above d ds apart

    go : remove_entry (is_at (slice_cmp nat_cmp id)) (map keyed ds) ≡ map keyed (without id ds)
        → remove_entry (is_at (slice_cmp nat_cmp id)) (map keyed (d ∷ ds)) ≡ map keyed (without id (d ∷ ds))
    go rest =
        by_order (slice_cmp nat_cmp id d.id)
        (λ h. remove_above id (d ∷ ds) (h, above_lower id d.id ds h up) ∙ ap (map keyed) (sym (without_less id d ds h up)))
        (λ h. rw h (ap (map keyed) (sym (without_equal id d ds h up))))
        (λ h. rw h (ap (λ (es : List (List ℕ × Content)). keyed d ∷ es) rest ∙ ap (map keyed) (sym (without_greater id d ds h))))
