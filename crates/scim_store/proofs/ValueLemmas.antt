-- Values that are among some and not among others.
use Rattle.std.proofs.Common.{◌≡◌, ◌≢◌, ℕ, refl, sym, ◌∙◌, not, ◌&&◌, ◌||◌, List, [], ◌∷◌, map, arith}
use Rattle.std.specs.Prelude.{AllPairs}
use Rattle.std.specs.Ordering.{nat_cmp, is_eq}
use Rattle.std.specs.declared.cmp.Ordering.TheVariants.{Less}
use Rattle.std.specs.Cmp.Lexicographic.{slice_cmp}
use Rattle.std.specs.List.{list_any}
use Rattle.std.specs.List.Sorted.{IsStrictlySortedBy}
use Rattle.std.proofs.lemmas.List.Kept.{AllPairs-cons}
use Rattle.std.proofs.lemmas.List.Elements.{All-map, All-from_recursion, All-weaker}
use Rattle.std.proofs.lemmas.Map.Keys.{sorted_head, sorted_tail}
use Rattle.std.proofs.lemmas.Map.Text.{is_eq-slice_cmp}
use denote.Ref.{Bor}
use Rattle.scim_schema.specs.declared.Attribute.TheVariants.{Members}
use Rattle.scim_schema.specs.declared.SubAttribute.TheVariants.{Value}
use Rattle.scim_schema.specs.Units.{leaf_at}
use Rattle.scim_cell.specs.Rows.{Row}
use Rattle.scim_shelf.specs.Members.{is_value_of}
use Rattle.scim_shelf.specs.Stores.{has_text_in}
use Rattle.scim_shelf.proofs.Facts.{ids_differ, exact_values, left_beyond}
use Rattle.scim_store_rows.specs.Stands.{is_among}

-- the texts that are borrowed
abbrev pub texts_of : List (Bor (List ℕ)) → List (List ℕ)
texts_of ts = map (λ t. t.now) ts

-- whether a value is among borrowed texts
pub among_texts : (v : List ℕ) (ts : List (Bor (List ℕ))) → list_any (λ t. is_eq (slice_cmp nat_cmp v t.now)) ts ≡ is_among v (texts_of ts)
among_texts v [] = refl
among_texts v (t ∷ ts) = (λ i. is_eq-slice_cmp v t.now i || among_texts v ts i)

no_pairs : AllPairs (λ (v w : List ℕ). v ≢ w) []
no_pairs = λ i j d h k. absurd (omega (arith, k))

-- texts in strict order are each there once
pub once_each : (ts : List (Bor (List ℕ))) → IsStrictlySortedBy (λ (s t : Bor (List ℕ)). slice_cmp nat_cmp s.now t.now) ts → AllPairs (λ v w. v ≢ w) (texts_of ts)
once_each [] sorted = no_pairs
once_each (t ∷ ts) sorted =
    AllPairs-cons (λ v w. v ≢ w) t.now (texts_of ts)
    (All-map (λ w. t.now ≢ w) (λ (s : Bor (List ℕ)). s.now) ts (All-weaker (λ (s : Bor (List ℕ)). slice_cmp nat_cmp t.now s.now ≡ Less) (λ s. t.now ≢ s.now) (λ s less. ids_differ t.now s.now less) ts (All-from_recursion (λ (s : Bor (List ℕ)). slice_cmp nat_cmp t.now s.now ≡ Less) ts (sorted_head (λ (r s : Bor (List ℕ)). slice_cmp nat_cmp r.now s.now) t ts sorted))))
    (once_each ts (sorted_tail (λ (r s : Bor (List ℕ)). slice_cmp nat_cmp r.now s.now) t ts sorted))

-- what others lack of members whose values are theirs or those of some are values of those
pub lacking_unshared : (v : List ℕ) (members others some : List Row)
    → (has_text_in (leaf_at Members Value) v some || has_text_in (leaf_at Members Value) v others) ≡ (has_text_in (leaf_at Members Value) v members || has_text_in (leaf_at Members Value) v others)
    → (is_value_of v some && not (is_value_of v others)) ≡ (is_value_of v members && not (is_value_of v others))
lacking_unshared v members others some same =
    let exact = exact_values v in
    left_beyond (is_value_of v some) (is_value_of v members) (is_value_of v others)
    ((λ i. sym (exact some) i || sym (exact others) i) ∙ same ∙ (λ i. exact members i || exact others i))
