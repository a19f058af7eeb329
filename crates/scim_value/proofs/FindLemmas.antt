-- What a search among sorted cells finds.
use Rattle.std.proofs.Common.{◌≡◌, ℕ, zero, suc, ◌≤◌, ◌<◌, refl, sym, ◌∙◌, arith, true, List, [], ◌∷◌, length, get_or}
use Rattle.std.specs.List.Sorted.{IsNonDecreasingBy}
use Rattle.std.specs.declared.cmp.Ordering.{Ordering}
use Rattle.std.specs.declared.cmp.Ordering.TheVariants.{Less, Equal, Greater}
use Rattle.std.specs.Ordering.{ordering_index}
use Rattle.std.specs.Cmp.{alike_right}
use Rattle.std.specs.FinMap.{is_sorted}
use Rattle.std.specs.FinMap.Entries.{below_all}
use Rattle.scim_cell.specs.declared.places.Place.{Place}
use Rattle.scim_cell.specs.declared.cells.Cell.{Cell}
use Rattle.scim_cell.specs.Place.{place_cmp}
use Rattle.scim_cell.specs.Content.{place_of, entries_of}
use Rattle.scim_value.proofs.PlaceLemmas.{place_total}
use Rattle.scim_value.proofs.ChainLemmas.{is_less, and_first, and_second}

pub below_at : (p : Place) (cells : List Cell) (i : ℕ) (d : Cell) → below_all place_cmp p (entries_of cells) ≡ true → i < length cells → place_cmp p (place_of (get_or cells i d)) ≡ Less
below_at p [] i d h l = absurd (omega arith)
below_at p (c ∷ cs) zero d h l = is_less _ (and_first _ _ h)
below_at p (c ∷ cs) (suc i) d h l = below_at p cs i d (and_second _ _ h) (omega arith)

later_index : (a b q : Place) (r : Ordering) → place_cmp b q ≡ r → place_cmp a b ≡ Less → ordering_index (place_cmp a q) ≤ ordering_index r
later_index a b q Less e h = rw (place_total.trans a b q h e) (omega arith)
later_index a b q Equal e h = rw (sym (alike_right place_total b q a e) ∙ h) (omega arith)
later_index a b q Greater e h = elim (place_cmp a q) as (λ r. ordering_index r ≤ 2) [ Less ↦ omega arith | Equal ↦ omega arith | Greater ↦ omega arith ]

pub searchable : (q : Place) (cells : List Cell) → is_sorted place_cmp (entries_of cells) ≡ true → IsNonDecreasingBy (λ (y : Cell). ordering_index (place_cmp (place_of y) q)) cells
searchable q [] h i j d le l = absurd (omega arith)
searchable q (c ∷ cs) h zero zero d le l = omega arith
searchable q (c ∷ cs) h zero (suc j) d le l = later_index (place_of c) (place_of (get_or cs j d)) q _ refl (below_at (place_of c) cs j d (and_first _ _ h) (omega arith))
searchable q (c ∷ cs) h (suc i) zero d le l = absurd (omega arith)
searchable q (c ∷ cs) h (suc i) (suc j) d le l = searchable q cs (and_second _ _ h) i j d (omega arith) (omega arith)
