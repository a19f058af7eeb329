-- Listings of the audit of a store, read block by block.
use Rattle.std.proofs.Common.{◌≡◌, ◌≢◌, ℕ, ◌+◌, ◌-◌, ◌<◌, ◌≤◌, max, min, List, ◌++◌, append_assoc, take, drop, length, sym, ap, ◌∙◌, arith, length-drop}
use Rattle.scim_audit.specs.declared.audit_rows.AuditRow.{AuditRow}
use Rattle.scim_audit_listing.specs.declared.filters.AuditFilter.{AuditFilter}
use Rattle.scim_audit_listing.specs.declared.listings.LineFormat.{LineFormat}
use Rattle.scim_audit_listing.specs.Listings.{fitting, fitting_rows, lines, take_last}
use Rattle.scim_audit_listing.proofs.Facts.{fitting_fewer, fitting_first, fitting_last, last_all}
use Rattle.scim_shelf.specs.Stores.{Store}
use Rattle.scim_store_rows.specs.Auditing.{AreRowsFrom}
use Rattle.scim_command_database.proofs.AuditLemmas.{block_lines, block_count, block_from}

module _ (which : AuditFilter) (from : ℕ) (store : Store) where
  -- ---- forwards

  -- the lines of a block more
  pub told_more : (format : LineFormat) (n count left added : ℕ) (rows : List AuditRow) (text new all : List ℕ) → 1 ≤ n → AreRowsFrom n count store rows
      → new ≡ text ++ lines format (take left (fitting_rows which n rows)) → added ≡ min left (length (fitting_rows which n rows))
      → text ++ lines format (take left (fitting which n store.audit)) ≡ all
      → new ++ lines format (take (left - added) (fitting which (n + count) store.audit)) ≡ all
  told_more format n count left added rows text new all low are wrote counted so_far =
      let mine = lines format (take left (fitting_rows which n rows)) in
      let rest = fitting which (n + count) store.audit in
      (λ i. wrote i ++ lines format (take (left - counted i) rest))
      ∙ append_assoc text mine (lines format (take (left - min left (length (fitting_rows which n rows))) rest))
      ∙ ap (λ (t : List ℕ). text ++ t) (sym (block_lines which n count store rows low are format left))
      ∙ so_far

  -- ---- backwards

  -- so many fit from a block on
  pub counted_more : (n count left found all : ℕ) (rows : List AuditRow) → 1 ≤ n → AreRowsFrom n count store rows → found ≡ min left (length (fitting_rows which n rows)) → found ≢ left
      → length (fitting which (n + count) store.audit) + left ≡ all → length (fitting which n store.audit) + (left - found) ≡ all
  counted_more n count left found all rows low are is other so_far =
      let whole = block_count which n count store rows low are in
      let fewer : length (fitting_rows which n rows) < left = omega (arith, is, other) in
      omega (arith, whole, is, fewer, so_far)

  -- so many fit from a row of a block on
  pub found_there : (n count left found all index : ℕ) (rows : List AuditRow) → 1 ≤ n → max from 1 ≤ n → AreRowsFrom n count store rows → index ≤ length rows
      → fitting_rows which (n + index) (drop index rows) ≡ take_last left (fitting_rows which n rows) → found ≡ min left (length (fitting_rows which n rows)) → found ≡ left
      → length (fitting which (n + count) store.audit) + left ≡ all → fitting which (n + index) store.audit ≡ take_last all (fitting which from store.audit)
  found_there n count left found all index rows low above are within last is enough so_far =
      let whole = block_from which n count store rows low are index within in
      let own = fitting_rows which n rows in
      let long = ap length last ∙ length-drop (length own - left) own in
      let first = max from 1 in
      let more = n + index - first in
      let at : n + index ≡ first + more = omega (arith, above) in
      let there : length (fitting which (first + more) store.audit) ≡ all = ap (λ (k : ℕ). length (fitting which k store.audit)) (sym at) ∙ omega (arith, whole, long, is, enough, so_far) in
      ap (λ (k : ℕ). fitting which k store.audit) at
      ∙ fitting_last which store.audit all first more (omega arith) there
      ∙ ap (take_last all) (fitting_first which store.audit from)

  -- fewer fit than are wanted
  pub found_all : (end left all : ℕ) → end < max from 1 → length (fitting which (end + 1) store.audit) + left ≡ all → fitting which (max from 1) store.audit ≡ take_last all (fitting which from store.audit)
  found_all end left all past so_far =
      let first = max from 1 in
      let more = first - (end + 1) in
      let at : end + 1 + more ≡ first = omega (arith, past) in
      let fewer = fitting_fewer which store.audit (end + 1) more (omega arith) in
      let same = ap (λ (k : ℕ). length (fitting which k store.audit)) at in
      let few : length (fitting which first store.audit) ≤ all = omega (arith, fewer, same, so_far) in
      sym (last_all all (fitting which first store.audit) few) ∙ ap (take_last all) (fitting_first which store.audit from)

-- the numbers of rows have 64 bits
pub numbers_fit : (n block last : ℕ) (rows : List AuditRow) → n ≤ last → last ≤ 9223372036854775807 → length rows ≤ block → block ≤ 1000 → n + length rows ≤ 18446744073709551616
numbers_fit n block last rows low bounded few small = omega (arith, low, bounded, few, small)
