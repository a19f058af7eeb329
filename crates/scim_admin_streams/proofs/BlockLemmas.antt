-- Blocks of rows that are read of an audit, among those that a job lists.
use Rattle.std.proofs.Common.{◌≡◌, ◌≢◌, ℕ, ◌+◌, ◌-◌, ◌≤◌, max, min, List, [], ◌++◌, length, take, drop, sym, ap, ◌∙◌, arith, length-drop, length-take}
use Rattle.std.proofs.Math.ListN.{drop_of_length-le}
use Rattle.std.proofs.lemmas.List.{take_all}
use Rattle.std.proofs.lemmas.List.Sums.{count_by-le-length, length-filter}
use Rattle.std.proofs.lemmas.List.FromFn.{length-enumerate_from}
use Rattle.std.specs.List.{enumerate_from}
use Rattle.scim_audit.specs.declared.audit_rows.AuditRow.{AuditRow}
use Rattle.scim_audit_listing.specs.declared.filters.AuditFilter.{AuditFilter}
use Rattle.scim_audit_listing.specs.declared.listings.LineFormat.{LineFormat}
use Rattle.scim_audit_listing.specs.Filters.{fits}
use Rattle.scim_audit_listing.specs.Listings.{Numbered, fitting, fitting_rows, lines, take_last}
use Rattle.scim_shelf.specs.Stores.{Store}
use Rattle.scim_store_rows.specs.Audit.{audit_rows}
use Rattle.scim_store_rows.specs.Auditing.{AreRowsFrom}
use Rattle.scim_store_rows.proofs.Facts.{take-audit_rows}
use Rattle.scim_admin_streams.specs.AuditJobs.{between}
use Rattle.scim_command_database.proofs.AuditLemmas.{block_from, block_lines, few_read}
use Rattle.scim_admin_streams.proofs.BetweenLemmas.{between_none, first_of, searched_more}

-- a store with the first rows of the audit
abbrev front : ℕ → Store → Store
front end store = record { resources = store.resources; audit = take end store.audit }

-- rows that are read before the end are those of the front
front_are : (first n end : ℕ) (store : Store) (rows : List AuditRow) → first + n ≤ end → AreRowsFrom (first + 1) n store rows → AreRowsFrom (first + 1) n (front end store) rows
front_are first n end store rows fit are =
    let all = audit_rows 1 store.audit in
    let place : first + 1 - 1 ≡ first = omega arith in
    are
    ∙ ap (λ (k : ℕ). take n (drop k all)) place
    ∙ sym (first_of first n end all fit)
    ∙ ap (λ (k : ℕ). take n (drop k (take end all))) (sym place)
    ∙ ap (λ rows. take n (drop (first + 1 - 1) rows)) (take-audit_rows 1 end store.audit)

module _ (which : AuditFilter) (first n : ℕ) (store : Store) (rows : List AuditRow) (are : AreRowsFrom (first + 1) n store rows) where
  pub few : length rows ≤ n
  few = few_read which (first + 1) n store rows (omega arith) are

  -- ---- forwards

  -- the lines of the first rows from a place on: those of a block, and those behind it
  pub listed_more : (format : LineFormat) (end most added : ℕ) → first + n ≤ end → added ≡ min most (length (fitting_rows which (first + 1) rows))
      → lines format (take most (between which first end store.audit))
      ≡ lines format (take most (fitting_rows which (first + 1) rows)) ++ lines format (take (most - added) (between which (first + n) end store.audit))
  listed_more format end most added fit counted =
      let here = fitting_rows which (first + 1) rows in
      let next : first + 1 + n ≡ first + n + 1 = omega arith in
      block_lines which (first + 1) n (front end store) rows (omega arith) (front_are first n end store rows fit are) format most
      ∙ (λ i. lines format (take most here) ++ lines format (take (most - sym counted i) (fitting which (next i) (take end store.audit))))

  -- ---- backwards

  -- how many rows fit from a row of the block on
  found_from : (index : ℕ) → index ≤ length rows → length (between which (first + index) (first + n) store.audit) ≡ length (fitting_rows which (first + 1 + index) (drop index rows))
  found_from index within =
      let end = first + n in
      let next : first + index + 1 ≡ first + 1 + index = omega arith in
      let behind : first + 1 + n ≡ first + n + 1 = omega arith in
      let none = ap length (between_none which store.audit end end (omega arith)) in
      let block = block_from which (first + 1) n (front end store) rows (omega arith) (front_are first n end store rows (omega arith) are) index within in
      let last = ap (λ (k : ℕ). length (fitting which k (take end store.audit))) behind in
      ap (λ (k : ℕ). length (fitting which k (take end store.audit))) next ∙ omega (arith, block, last, none)

  module _ (s count wanted found : ℕ) (low : s ≤ first) (high : first + n ≤ count) (is : found ≡ min wanted (length (fitting_rows which (first + 1) rows))) where
    abbrev at : ℕ
    at = first + n

    -- not all wanted rows are in the block
    pub search_on : found ≢ wanted
        → take_last wanted (between which s at store.audit) ++ between which at count store.audit
        ≡ take_last (wanted - found) (between which s first store.audit) ++ between which first count store.audit
    search_on other =
        let none : first + 0 ≡ first = omega arith in
        let start : first + 1 + 0 ≡ first + 1 = omega arith in
        let long : length (between which first at store.audit) ≡ length (fitting_rows which (first + 1) rows) =
        ap (λ (k : ℕ). length (between which k at store.audit)) (sym none) ∙ found_from 0 (omega arith) ∙ ap (λ (k : ℕ). length (fitting_rows which k rows)) start
        in
        let all : length (between which first at store.audit) ≡ found = omega (arith, long, is, other) in
        searched_more which store.audit s first at count wanted low (omega arith) high (omega (arith, all, is))
        ∙ ap (λ (k : ℕ). take_last (wanted - k) (between which s first store.audit) ++ between which first count store.audit) all

    -- the first of the wanted rows is in the block
    pub search_ends : (index : ℕ) → index ≤ length rows → fitting_rows which (first + 1 + index) (drop index rows) ≡ take_last wanted (fitting_rows which (first + 1) rows) → found ≡ wanted
        → take_last wanted (between which s at store.audit) ++ between which at count store.audit ≡ between which (first + index) count store.audit
    search_ends index within last enough =
        let own = fitting_rows which (first + 1) rows in
        let place = first + index in
        let short = few in
        let long = ap length last ∙ length-drop (length own - wanted) own in
        let here = found_from index within in
        let all : length (between which place at store.audit) ≡ wanted = omega (arith, here, long, is, enough) in
        let lower = between which s place store.audit in
        let none : take_last (wanted - wanted) lower ≡ [] = drop_of_length-le lower {i = length lower - (wanted - wanted)} (omega arith) in
        searched_more which store.audit s place at count wanted (omega (arith, low)) (omega (arith, within, short)) high (omega (arith, all))
        ∙ ap (λ (k : ℕ). take_last (wanted - k) lower ++ between which place count store.audit) all
        ∙ ap (λ (rows : List Numbered). rows ++ between which place count store.audit) none

-- ---- all rows

-- no more rows fit than there are
fewer : (which : AuditFilter) (n : ℕ) (rows : List AuditRow) → length (fitting_rows which n rows) ≤ length rows
fewer which n rows =
    let numbered = enumerate_from n rows in
    let a = length-filter (λ (x : Numbered). fits which x.1) numbered in
    let b = count_by-le-length (λ (x : Numbered). fits which x.1) numbered in
    let c = length-enumerate_from n rows in
    omega (arith, a, b, c)

-- no more rows than the audit has
pub all_between : (which : AuditFilter) (before end : ℕ) (audit : List AuditRow) → take end (between which before end audit) ≡ between which before end audit
all_between which before end audit =
    let rows = drop (before + 1 - 1) (take end audit) in
    let fit = fewer which (max (before + 1) 1) rows in
    let less = length-drop (before + 1 - 1) (take end audit) in
    let front = length-take end audit in
    take_all end (between which before end audit) (omega (arith, fit, less, front))
