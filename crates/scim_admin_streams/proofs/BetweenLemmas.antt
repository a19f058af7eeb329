-- The rows of an audit between two places that fit.
use Rattle.std.proofs.Common.{◌≡◌, ℕ, ◌+◌, ◌-◌, ◌<◌, ◌≤◌, max, min, List, [], ◌++◌, append_assoc, length, take, drop, refl, sym, ap, ◌∙◌, ◌⊎◌, inl, inr, arith, Bool, true, false, append-nil, length-append, length-take}
use Rattle.std.specs.Prelude.{◌==◌, nat_le}
use Rattle.std.proofs.lemmas.Bool.{cases_lt, eqb-true, leb-true}
use Rattle.std.proofs.Math.Seq.{take-nil}
use Rattle.std.proofs.lemmas.List.{drop-append-le, drop-take, take-append-le, take-take, take_all}
use Rattle.scim_audit.specs.declared.audit_rows.AuditRow.{AuditRow}
use Rattle.scim_audit_listing.specs.declared.filters.AuditFilter.{AuditFilter}
use Rattle.scim_audit_listing.specs.Listings.{Numbered, fitting, fitting_rows, take_last}
use Rattle.scim_audit_listing.proofs.Facts.{fitting_block, fitting_none, last_all}
use Rattle.scim_admin_streams.specs.AuditJobs.{between, is_over, rows_left}
use Rattle.scim_admin_streams.specs.declared.audit_jobs.Phase.{Phase}
use Rattle.scim_admin_streams.specs.declared.audit_jobs.Phase.TheVariants.{Search, List as ListRows}

-- ---- the last elements of two lists

-- all of the second list, and those of the first that are still wanted
pub last_apart : {X : Type 0} (n : ℕ) (xs ys : List X) → length ys ≤ n → take_last n (xs ++ ys) ≡ take_last (n - length ys) xs ++ ys
last_apart n xs ys few =
    let long = length-append xs ys in
    let at : length (xs ++ ys) - n ≡ length xs - (n - length ys) = omega (arith, long, few) in
    ap (λ (k : ℕ). drop k (xs ++ ys)) at ∙ drop-append-le (length xs - (n - length ys)) xs ys (omega arith)

-- some elements after a place, of the first ones
pub first_of : {X : Type 0} (s n a : ℕ) (xs : List X) → s + n ≤ a → take n (drop s (take a xs)) ≡ take n (drop s xs)
first_of s n a xs fit =
    let whole : a ≡ s + (a - s) = omega (arith, fit) in
    ap (λ (k : ℕ). take n (drop s (take k xs))) whole ∙ ap (take n) (drop-take s (a - s) xs) ∙ take-take n (a - s) (drop s xs) (omega (arith, fit))

module _ (which : AuditFilter) (audit : List AuditRow) where
  -- none behind the end
  pub between_none : (before end : ℕ) → end ≤ before → between which before end audit ≡ []
  between_none before end past =
      let long = length-take end audit in
      fitting_none which (take end audit) (before + 1) (omega (arith, long, past))

  -- up to a place, and from there on
  pub between_split : (s b a : ℕ) → s ≤ b → b ≤ a → between which s a audit ≡ between which s b audit ++ between which b a audit
  between_split s b a low high =
      let number : max (s + 1) 1 ≡ s + 1 = omega arith in
      let place : s + 1 - 1 ≡ s = omega arith in
      let next : s + 1 + (b - s) ≡ b + 1 = omega (arith, low) in
      let part : s + (b - s) ≡ b = omega (arith, low) in
      let own : take (b - s) (drop s (take a audit)) ≡ drop s (take b audit) =
      first_of s (b - s) a audit (omega (arith, low, high)) ∙ sym (drop-take s (b - s) audit) ∙ ap (λ (k : ℕ). drop s (take k audit)) part
      in
      fitting_block which (take a audit) (s + 1) (b - s) (omega arith)
      ∙ (λ i. fitting_rows which (sym number i) (take (b - s) (drop (place i) (take a audit))) ++ fitting which (next i) (take a audit))
      ∙ ap (λ (rows : List AuditRow). fitting_rows which (max (s + 1) 1) rows ++ between which b a audit) own
      ∙ ap (λ (k : ℕ). fitting_rows which (max (s + 1) 1) (drop k (take b audit)) ++ between which b a audit) (sym place)

  -- ---- the beginning

  -- all rows from number `from` on
  between_all : (from count : ℕ) → length audit ≡ count → between which (from - 1) count audit ≡ fitting which from audit
  between_all from count long =
      let first : max (from - 1 + 1) 1 ≡ max from 1 = omega arith in
      let place : from - 1 + 1 - 1 ≡ from - 1 = omega arith in
      ap (fitting which (from - 1 + 1)) (take_all count audit (omega (arith, long)))
      ∙ (λ i. fitting_rows which (first i) (drop (place i) audit))

  -- all rows from number `from` on, from a place within the audit
  between_capped : (before count : ℕ) → (before < count) ⊎ (count ≤ before) → between which (min before count) count audit ≡ between which before count audit
  between_capped before count (inl low) = ap (λ (k : ℕ). between which k count audit) (omega (arith, low))
  between_capped before count (inr past) = between_none (min before count) count (omega (arith, past)) ∙ sym (between_none before count past)

  pub all_from : (from count : ℕ) → length audit ≡ count → between which (min (from - 1) count) count audit ≡ fitting which from audit
  all_from from count long = between_capped (from - 1) count (cases_lt (from - 1) count) ∙ between_all from count long

  -- the last rows from number `from` on
  pub last_between : (wanted from count : ℕ) → length audit ≡ count → take_last wanted (between which (from - 1) count audit) ++ between which count count audit ≡ take_last wanted (fitting which from audit)
  last_between wanted from count long =
      (λ i. take_last wanted (between_all from count long i) ++ between_none count count (omega arith) i)
      ∙ append-nil (take_last wanted (fitting which from audit))

  -- ---- a search for the first of the last rows

  -- a block in which not all wanted rows are
  pub searched_more : (s b a count wanted : ℕ) → s ≤ b → b ≤ a → a ≤ count → length (between which b a audit) ≤ wanted
      → take_last wanted (between which s a audit) ++ between which a count audit ≡ take_last (wanted - length (between which b a audit)) (between which s b audit) ++ between which b count audit
  searched_more s b a count wanted low high end few =
      let here = between which b a audit in
      let lower = between which s b audit in
      let rest = between which a count audit in
      ap (λ (rows : List Numbered). take_last wanted rows ++ rest) (between_split s b a low high)
      ∙ ap (λ (rows : List Numbered). rows ++ rest) (last_apart wanted lower here few)
      ∙ append_assoc (take_last (wanted - length here) lower) here rest
      ∙ ap (λ (rows : List Numbered). take_last (wanted - length here) lower ++ rows) (sym (between_split b a count high end))

  -- there are no rows before the place
  pub searched_none : (s a count wanted : ℕ) → a ≤ s → take_last wanted (between which s a audit) ++ between which a count audit ≡ between which a count audit
  searched_none s a count wanted past =
      ap (λ (rows : List Numbered). take_last wanted rows ++ between which a count audit) (between_none s a past)
      ∙ ap (λ (rows : List Numbered). rows ++ between which a count audit) (last_all wanted [] (omega arith))

  -- ---- rows that come later

  pub between_later : (before end : ℕ) (more : List AuditRow) → end ≤ length audit → between which before end (audit ++ more) ≡ between which before end audit
  between_later before end more few = ap (fitting which (before + 1)) (take-append-le end audit more few)

-- rows that are added to the audit change nothing of those that are left to a job
pub left_later : (which : AuditFilter) (phase : Phase) (s at count : ℕ) (audit more : List AuditRow) → at ≤ count → count ≤ length audit → rows_left which phase s at count (audit ++ more) ≡ rows_left which phase s at count audit
left_later which (ListRows most) s at count audit more within few = ap (take most) (between_later which audit at count more few)
left_later which (Search wanted) s at count audit more within few =
    (λ i. take_last wanted (between_later which audit s at more (omega (arith, within, few)) i) ++ between_later which audit at count more few i)

by_test : {G : Type 0} (b : Bool) → (b ≡ true → G) → (b ≡ false → G) → G
by_test true pass fail = pass refl
by_test false pass fail = fail refl

-- a job that is done has no rows left
pub left_none : (which : AuditFilter) (phase : Phase) (s at count : ℕ) (audit : List AuditRow) → is_over phase at count ≡ true → rows_left which phase s at count audit ≡ []
left_none which (Search wanted) s at count audit over = cc
left_none which (ListRows most) s at count audit over =
    by_test (most == 0)
    (λ none. ap (λ (k : ℕ). take k (between which at count audit)) (eqb-true most 0 none))
    (λ some. (let past : nat_le count at ≡ true = rw some at over in
    ap (take most) (between_none which audit at count (leb-true count at past)) ∙ take-nil most))
