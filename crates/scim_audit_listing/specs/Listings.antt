-- The listings of an audit: which rows, and their lines.
use Rattle.std.specs.Prelude.{◌≡◌, ℕ, ◌+◌, ◌-◌, max, List, [], ◌∷◌, ◌++◌, length, take, drop, filter, None, codes}
use Rattle.std.specs.List.{flat_map, enumerate_from}
use Rattle.serde_json.specs.Written.{compact_text}
use Rattle.scim_audit.specs.declared.audit_rows.AuditRow.{AuditRow}
use Rattle.scim_audit.specs.Rows.{row_line}
use Rattle.scim_audit_listing.specs.declared.filters.AuditFilter.{AuditFilter}
use Rattle.scim_audit_listing.specs.declared.listings.LineFormat.{LineFormat}
use Rattle.scim_audit_listing.specs.declared.listings.LineFormat.TheVariants.{Words, Json}
use Rattle.scim_audit_listing.specs.declared.listings.Portion.{Portion}
use Rattle.scim_audit_listing.specs.declared.listings.Portion.TheVariants.{First, Last}
use Rattle.scim_audit_listing.specs.declared.listings.Listing.{Listing}
use Rattle.scim_audit_listing.specs.Filters.{fits}
use Rattle.scim_audit_listing.specs.JsonRows.{row_data}

-- a row of the audit with its number
abbrev pub Numbered : Type 0
Numbered = ℕ × AuditRow

-- of rows that are numbered from `first` on, those that fit, with their numbers
abbrev pub fitting_rows : AuditFilter → ℕ → List AuditRow → List Numbered
fitting_rows which first rows = filter (λ (numbered : Numbered). fits which numbered.1) (enumerate_from first rows)

-- the rows of the audit from number `from` on that fit, with their numbers; rows are numbered from 1, and 0
-- counts as 1
abbrev pub fitting : AuditFilter → ℕ → List AuditRow → List Numbered
fitting which from audit = fitting_rows which (max from 1) (drop (from - 1) audit)

-- the last n elements, or all if there are fewer
abbrev pub take_last : {X : Type 0} → ℕ → List X → List X
take_last n xs = drop (length xs - n) xs

-- the first or the last rows of a list, or all if there are fewer
abbrev pub portion_of : Portion → List Numbered → List Numbered
portion_of (First n) rows = take n rows
portion_of (Last n) rows = take_last n rows

-- the line of a row: in words, or as JSON
abbrev pub line_text : LineFormat → ℕ → AuditRow → List ℕ
line_text Words n row = row_line n row
line_text Json n row = compact_text (row_data n row)

-- the lines of rows, each with a line feed at its end
abbrev pub lines : LineFormat → List Numbered → List ℕ
lines format rows = flat_map (λ (numbered : Numbered). line_text format numbered.0 numbered.1 ++ codes "\n") rows

-- the text of a listing of an audit
abbrev pub listed : Listing → List AuditRow → List ℕ
listed l audit = lines l.format (portion_of l.portion (fitting l.filter l.from audit))

-- the listing of the first `count` rows from number `from` on, whatever they are, in words
abbrev pub plain : ℕ → ℕ → Listing
plain from count = record {
  from = from;
  filter = record { client = None; since = None; refusal = None };
  portion = First count;
  format = Words;
}

-- the lines of rows in words, numbered from n
abbrev pub row_lines : ℕ → List AuditRow → List ℕ
row_lines n [] = []
row_lines n (row ∷ rows) = row_line n row ++ codes "\n" ++ row_lines (n + 1) rows

-- a listing without conditions has the lines of consecutive rows: of at most `count` from number `from` on
abbrev pub PlainListingsAreConsecutive : Type 0
PlainListingsAreConsecutive =
    (from count : ℕ) (audit : List AuditRow)
    → listed (plain from count) audit ≡ row_lines (max from 1) (take count (drop (from - 1) audit))
