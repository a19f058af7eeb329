-- Readings are in the order of their instants.
use Rattle.std.proofs.Common.{◌≡◌, ℕ, ◌<◌, refl, sym, ap, ◌∙◌, arith, pos, ◌<ℤ◌, Bool, true, false}
use Rattle.std.specs.declared.cmp.Ordering.{Ordering}
use Rattle.std.specs.declared.cmp.Ordering.TheVariants.{Less, Equal, Greater}
use Rattle.std.specs.Ordering.{nat_cmp, int_cmp, bool_cmp, ordering_then, MatchOrdering}
use Rattle.std.specs.Cmp.{IsTotalOrder, ranked, int_ranked, int_cmp_is, on_total, then_total, int_cmp_total, bool_cmp_total, tied_itself}
use Rattle.jiff_core.proofs.SignedLemmas.{signed_arith}
use Rattle.scim_text.specs.declared.moment_readings.Reading.{Reading}
use Rattle.scim_text.specs.Moments.{moment_text}
use Rattle.scim_text.specs.Readings.{reading_cmp, ReadingsAreOrdered, PrintedInOrder}
use Rattle.scim_text.proofs.MomentInLemmas.{one_reading}
use Rattle.scim_text.proofs.Printed.{printed_reads_back}
use Rattle.scim_text.proofs.Spellings.{same_reading}

reading_total : IsTotalOrder reading_cmp
reading_total = then_total (on_total (λ (r : Reading). r.second) int_cmp_total) (on_total (λ (r : Reading). r.later) bool_cmp_total)

both_tied : (r s : Ordering) → ordering_then r s ≡ Equal → (r ≡ Equal) × (s ≡ Equal)
both_tied Less s e = cc
both_tied Equal s e = (refl, e)
both_tied Greater s e = cc

same_truth : (a b : Bool) → bool_cmp a b ≡ Equal → a ≡ b
same_truth false false e = refl
same_truth false true e = cc
same_truth true false e = cc
same_truth true true e = refl

-- readings that are level are one
one_level : (a b : Reading) → reading_cmp a b ≡ Equal → a ≡ b
one_level a b level =
    let ties = both_tied (int_cmp a.second b.second) (bool_cmp a.later b.later) level in
    same_reading a b (int_ranked a.second b.second Equal (sym ties.0)) (same_truth a.later b.later ties.1)

pub readings_are_ordered : ReadingsAreOrdered
readings_are_ordered = record {
  total = reading_total;
  apart = λ a b. (one_level a b, λ same. ap (reading_cmp a) (sym same) ∙ tied_itself reading_total a);
}

-- whole numbers are in the order of the natural numbers that they are
whole_ranks : (m n : ℕ) (r : Ordering) → MatchOrdering r (m < n) (m ≡ n) (n < m) → MatchOrdering r (pos m <ℤ pos n) (pos m ≡ pos n) (pos n <ℤ pos m)
whole_ranks m n Less h = omega (arith, signed_arith, h)
whole_ranks m n Equal h = ap pos h
whole_ranks m n Greater h = omega (arith, signed_arith, h)

whole_cmp : (m n : ℕ) → int_cmp (pos m) (pos n) ≡ nat_cmp m n
whole_cmp m n = sym (int_cmp_is (pos m) (pos n) (nat_cmp m n) (whole_ranks m n (nat_cmp m n) (ranked m n (nat_cmp m n) refl)))

level_last : (r : Ordering) → ordering_then r Equal ≡ r
level_last Less = refl
level_last Equal = refl
level_last Greater = refl

abbrev reading_at : ℕ → Reading
reading_at n = record { second = pos n; later = false }

-- what printed moments stand for is in the order of the moments
pub printed_in_order : PrintedInOrder
printed_in_order m n a b low high first second =
    let one : a ≡ reading_at m = one_reading (moment_text m) a (reading_at m) first (printed_reads_back m low) in
    let other : b ≡ reading_at n = one_reading (moment_text n) b (reading_at n) second (printed_reads_back n high) in
    (λ i. reading_cmp (one i) (other i)) ∙ level_last (int_cmp (pos m) (pos n)) ∙ whole_cmp m n
