use Rattle.std.proofs.Common.{◌≡◌, ◌≤◌, ◌+◌, ℕ, length, drop}
use Rattle.scim_audit_listing.specs.Listings.{fitting_rows}
use Rattle.scim_audit_listing.proofs.listings.start_of_last.Given as goal

-- the rows from here on have been counted
abbrev pub invariant-loop-index : goal.invariant-loop-index
invariant-loop-index l = record {
  within : l.found ≤ l.wanted;
  few : l.found + l.index ≤ length l.rows;
  count : (first : ℕ) → l.found ≡ length (fitting_rows l.filter (first + l.index) (drop l.index l.rows));
}
