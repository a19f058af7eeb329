-- Listings without conditions.
use Rattle.std.proofs.Common.{◌≡◌, ℕ, zero, suc, ◌+◌, ◌-◌, max, List, [], ◌∷◌, ◌++◌, take, drop, refl, ap, ◌∙◌}
use Rattle.std.specs.Prelude.{None, codes}
use Rattle.std.specs.List.{enumerate_from}
use Rattle.scim_audit.specs.declared.audit_rows.AuditRow.{AuditRow}
use Rattle.scim_audit.specs.Rows.{row_line}
use Rattle.scim_audit_listing.specs.declared.filters.AuditFilter.{AuditFilter}
use Rattle.scim_audit_listing.specs.declared.listings.LineFormat.TheVariants.{Words}
use Rattle.scim_audit_listing.specs.Listings.{Numbered, fitting_rows, lines, row_lines, PlainListingsAreConsecutive}

-- no condition
abbrev anything : AuditFilter
anything = record { client = None; since = None; refusal = None }

-- each row fits
each_fits : (n : ℕ) (rows : List AuditRow) → fitting_rows anything n rows ≡ enumerate_from n rows
each_fits n [] = refl
each_fits n (row ∷ rows) = ap (λ (more : List Numbered). (n, row) ∷ more) (each_fits (n + 1) rows)

-- the lines of the first rows
first_lines : (n count : ℕ) (rows : List AuditRow) → lines Words (take count (enumerate_from n rows)) ≡ row_lines n (take count rows)
first_lines n zero rows = refl
first_lines n (suc count) [] = refl
first_lines n (suc count) (row ∷ rows) = ap (λ (more : List ℕ). row_line n row ++ codes "\n" ++ more) (first_lines (n + 1) count rows)

pub plain_consecutive : PlainListingsAreConsecutive
plain_consecutive from count audit =
    let first = max from 1 in
    let rows = drop (from - 1) audit in
    ap (λ (numbered : List Numbered). lines Words (take count numbered)) (each_fits first rows) ∙ first_lines first count rows
