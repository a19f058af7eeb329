use Rattle.std.proofs.Common.{◌≡◌, ◌≤◌, ◌+◌, ◌-◌, ◌^◌, ◌++◌, length, min, take, drop, string_bytes}
use Rattle.scim_audit_listing.specs.Listings.{fitting_rows, lines}
use Rattle.scim_audit_listing.proofs.listings.add_lines.Given as goal

-- the lines so far, and those of the rows from this one on, are those of all
abbrev pub invariant-loop-index : goal.invariant-loop-index
invariant-loop-index l = record {
  within : l.added ≤ l.most;
  few : l.added ≤ l.index;
  lines : l.first + length l.rows ≤ 2 ^ 64 → string_bytes l.text ++ lines l.format (take (l.most - l.added) (fitting_rows l.filter (l.first + l.index) (drop l.index l.rows))) ≡ string_bytes l.fn.text ++ lines l.format (take l.most (fitting_rows l.filter l.first l.rows));
  count : l.added + min (l.most - l.added) (length (fitting_rows l.filter (l.first + l.index) (drop l.index l.rows))) ≡ min l.most (length (fitting_rows l.filter l.first l.rows));
}
