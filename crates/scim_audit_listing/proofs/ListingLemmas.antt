-- Listings of an audit, part by part.
use Rattle.std.proofs.Common.{◌≡◌, ℕ, ◌+◌, ◌-◌, ◌<◌, ◌≤◌, max, List, [], ◌++◌, length, take, drop, sym, ap, ◌∙◌, arith}
use Rattle.std.proofs.Math.ListN.{drop_of_length-le}
use Rattle.std.proofs.lemmas.List.{drop-drop}
use Rattle.scim_audit.specs.declared.audit_rows.AuditRow.{AuditRow}
use Rattle.scim_audit_listing.specs.declared.filters.AuditFilter.{AuditFilter}
use Rattle.scim_audit_listing.specs.Listings.{Numbered, fitting, fitting_rows, take_last}
use Rattle.scim_audit_listing.proofs.FilteredLemmas.{fitting_parts, few_from, last_from}

module _ (which : AuditFilter) (audit : List AuditRow) where
  -- from number 1 on
  fitting_here : (from : ℕ) → 1 ≤ from → fitting which from audit ≡ fitting_rows which from (drop (from - 1) audit)
  fitting_here from low = ap (λ (n : ℕ). fitting_rows which n (drop (from - 1) audit)) (omega (arith, low))

  -- 0 counts as 1
  pub fitting_first : (from : ℕ) → fitting which (max from 1) audit ≡ fitting which from audit
  fitting_first from =
      let first : max (max from 1) 1 ≡ max from 1 = omega arith in
      let at : max from 1 - 1 ≡ from - 1 = omega arith in
      ap (λ (n : ℕ). fitting_rows which n (drop (max from 1 - 1) audit)) first ∙ ap (λ (n : ℕ). fitting_rows which (max from 1) (drop n audit)) at

  -- none beyond the end
  pub fitting_none : (from : ℕ) → length audit < from → fitting which from audit ≡ []
  fitting_none from past = let end : length audit ≤ from - 1 = omega (arith, past) in ap (fitting_rows which (max from 1)) (drop_of_length-le audit end)

  -- the rows from a later number on
  later : (from n : ℕ) → 1 ≤ from → fitting which (from + n) audit ≡ fitting_rows which (from + n) (drop n (drop (from - 1) audit))
  later from n low =
      let there = fitting_here (from + n) (omega (arith, low)) in
      let at : from + n - 1 ≡ from - 1 + n = omega (arith, low) in
      there ∙ ap (λ (k : ℕ). fitting_rows which (from + n) (drop k audit)) at ∙ ap (fitting_rows which (from + n)) (sym (drop-drop n (from - 1) audit))

  -- the next rows, and those after them
  pub fitting_block : (from n : ℕ) → 1 ≤ from → fitting which from audit ≡ fitting_rows which from (take n (drop (from - 1) audit)) ++ fitting which (from + n) audit
  fitting_block from n low =
      fitting_here from low ∙ fitting_parts which from n (drop (from - 1) audit) ∙ ap (λ (rest : List Numbered). fitting_rows which from (take n (drop (from - 1) audit)) ++ rest) (sym (later from n low))

  -- the last rows that fit, where so many fit from a later number on
  pub fitting_last : (count from n : ℕ) → 1 ≤ from → length (fitting which (from + n) audit) ≡ count → fitting which (from + n) audit ≡ take_last count (fitting which from audit)
  fitting_last count from n low long =
      let there = later from n low in
      there ∙ last_from which count from n (drop (from - 1) audit) (sym (ap length there) ∙ long) ∙ ap (take_last count) (sym (fitting_here from low))

  -- how many fit from a later number on, at most
  pub fitting_fewer : (from n : ℕ) → 1 ≤ from → length (fitting which (from + n) audit) ≤ length (fitting which from audit)
  fitting_fewer from n low =
      let there = ap length (later from n low) in
      let here = ap length (fitting_here from low) in
      let few = few_from which from n (drop (from - 1) audit) in
      omega (arith, there, here, few)
