-- Parts of the rows that fit.
use Rattle.std.proofs.Common.{◌≡◌, ℕ, zero, suc, ◌+◌, ◌-◌, ◌<◌, ◌≤◌, List, [], ◌∷◌, ◌++◌, length, get_or, take, drop, refl, sym, ap, ◌∙◌, arith, Bool, true, false, length-append}
use Rattle.std.specs.Prelude.{if◌then◌else◌}
use Rattle.std.proofs.lemmas.List.{drop_more}
use Rattle.std.proofs.Math.Seq.{drop-append_seam, take-append-add}
use Rattle.std.proofs.lemmas.Grind.{flat_map-append}
use Rattle.scim_audit.specs.declared.audit_rows.AuditRow.{AuditRow}
use Rattle.scim_audit_listing.specs.declared.filters.AuditFilter.{AuditFilter}
use Rattle.scim_audit_listing.specs.declared.listings.LineFormat.{LineFormat}
use Rattle.scim_audit_listing.specs.Filters.{fits}
use Rattle.scim_audit_listing.specs.Listings.{Numbered, fitting_rows, lines, take_last}

-- an element in front of a list of two parts, where a test passes
by_fit : {X : Type 0} (b : Bool) (x : X) (all front back : List X) → all ≡ front ++ back → (if b then x ∷ all else all) ≡ (if b then x ∷ front else front) ++ back
by_fit true x all front back same = ap (λ (xs : List _). x ∷ xs) same
by_fit false x all front back same = same

module _ (which : AuditFilter) where
  -- the rows that fit, of two parts
  pub fitting_parts : (first at : ℕ) (rows : List AuditRow) → fitting_rows which first rows ≡ fitting_rows which first (take at rows) ++ fitting_rows which (first + at) (drop at rows)
  fitting_parts first zero rows = ap (λ (n : ℕ). fitting_rows which n rows) (omega arith)
  fitting_parts first (suc at) [] = refl
  fitting_parts first (suc at) (row ∷ rows) =
      let rest = fitting_parts (first + 1) at rows ∙ ap (λ (n : ℕ). fitting_rows which (first + 1) (take at rows) ++ fitting_rows which n (drop at rows)) (omega arith) in
      by_fit (fits which row) (first, row) _ _ _ rest

  -- the rows that fit, of a row and those after it
  one_more : (n : ℕ) (row : AuditRow) (rows : List AuditRow) → fitting_rows which n (row ∷ rows) ≡ fitting_rows which n (row ∷ []) ++ fitting_rows which (n + 1) rows
  one_more n row rows = by_fit (fits which row) (n, row) (fitting_rows which (n + 1) rows) [] (fitting_rows which (n + 1) rows) refl

  pub fitting_from : (first i : ℕ) (rows : List AuditRow) (row : AuditRow) → i < length rows → row ≡ get_or rows i row
      → fitting_rows which (first + i) (drop i rows) ≡ fitting_rows which (first + i) (row ∷ []) ++ fitting_rows which (first + (i + 1)) (drop (i + 1) rows)
  fitting_from first i rows row low is =
      ap (fitting_rows which (first + i)) (drop_more rows i row low ∙ ap (λ (r : AuditRow). r ∷ drop (i + 1) rows) (sym is))
      ∙ one_more (first + i) row (drop (i + 1) rows)
      ∙ ap (λ (n : ℕ). fitting_rows which (first + i) (row ∷ []) ++ fitting_rows which n (drop (i + 1) rows)) (omega arith)

  -- how many fit from a row on
  pub counted : (b : Bool) (first i : ℕ) (rows : List AuditRow) (row : AuditRow) → fits which row ≡ b → i < length rows → row ≡ get_or rows i row
      → length (fitting_rows which (first + i) (drop i rows)) ≡ (if b then 1 else 0) + length (fitting_rows which (first + (i + 1)) (drop (i + 1) rows))
  counted true first i rows row fit low is = ap length (fitting_from first i rows row low is) ∙ rw fit (omega arith)
  counted false first i rows row fit low is = ap length (fitting_from first i rows row low is) ∙ rw fit (omega arith)

  -- the last rows that fit, where so many fit from a row on
  pub last_from : (n first i : ℕ) (rows : List AuditRow) → length (fitting_rows which (first + i) (drop i rows)) ≡ n
      → fitting_rows which (first + i) (drop i rows) ≡ take_last n (fitting_rows which first rows)
  last_from n first i rows long =
      let front = fitting_rows which first (take i rows) in
      let back = fitting_rows which (first + i) (drop i rows) in
      let e = length-append front back in
      sym (ap (λ (k : ℕ). drop k (front ++ back)) (omega (arith, e, long)) ∙ drop-append_seam front back)
      ∙ ap (take_last n) (sym (fitting_parts first i rows))

  -- how many fit from a row on, at most
  pub few_from : (first i : ℕ) (rows : List AuditRow) → length (fitting_rows which (first + i) (drop i rows)) ≤ length (fitting_rows which first rows)
  few_from first i rows =
      let front = fitting_rows which first (take i rows) in
      let back = fitting_rows which (first + i) (drop i rows) in
      let whole = ap length (fitting_parts first i rows) in
      let e = length-append front back in
      omega (arith, e, whole)

-- the last elements, where there are no more than that
pub last_all : {X : Type 0} (n : ℕ) (xs : List X) → length xs ≤ n → take_last n xs ≡ xs
last_all n xs few = let none : length xs - n ≡ 0 = omega (arith, few) in ap (λ (k : ℕ). drop k xs) none

-- the first elements of two lists, where the first list has no more
pub take_parts : {X : Type 0} (n : ℕ) (xs ys : List X) → length xs ≤ n → take n (xs ++ ys) ≡ xs ++ take (n - length xs) ys
take_parts n xs ys few = let whole : n ≡ length xs + (n - length xs) = omega (arith, few) in ap (λ (k : ℕ). take k (xs ++ ys)) whole ∙ take-append-add xs ys (n - length xs)

-- the lines of the first rows of two lists, where the first list has no more
pub lines_parts : (format : LineFormat) (n : ℕ) (xs ys : List Numbered) → length xs ≤ n → lines format (take n (xs ++ ys)) ≡ lines format xs ++ lines format (take (n - length xs) ys)
lines_parts format n xs ys few = ap (lines format) (take_parts n xs ys few) ∙ flat_map-append _ xs (take (n - length xs) ys)
