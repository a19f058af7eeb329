use Rattle.std.proofs.Common.{◌≡◌, ◌≤◌, ◌+◌, ◌-◌, ◌++◌, take, string_bytes}
use Rattle.sqlite.specs.Held.{state}
use Rattle.sqlite.specs.State.{HasCleanDisk}
use Rattle.scim_audit_listing.specs.Listings.{fitting, lines}
use Rattle.scim_shelf.specs.Stores.{Store, last_number}
use Rattle.scim_store.specs.Shelves.{IsKeptIn}
use Rattle.scim_store.specs.SqlShelves.{base_of, connection_of, rows_of}
use Rattle.scim_command_database.specs.Audit.{SparesStore}
use Rattle.scim_command_database.proofs.auditing.first_lines.Given as goal

-- the lines so far, and the first of the rows from the next number on, are the lines of all
abbrev pub invariant-loop-left : goal.invariant-loop-left
invariant-loop-left g l =
    let old = state g.S.Store (connection_of l.fn.shelf) in
    let here = state g.S.Store (connection_of l.shelf) in
    record {
      low : 1 ≤ l.next;
      high : l.next ≤ l.last + 1000 + l.from;
      bounded : l.last ≤ last_number;
      told : (store : Store) → IsKeptIn (base_of l.fn.shelf) old (rows_of l.fn.shelf) store → HasCleanDisk here
          → string_bytes l.text ++ lines l.listing.format (take l.left (fitting l.listing.filter l.next store.audit)) ≡ lines l.listing.format (take l.count (fitting l.listing.filter l.from store.audit));
      keeps : (store : Store) → IsKeptIn (base_of l.fn.shelf) old (rows_of l.fn.shelf) store → IsKeptIn (base_of l.shelf) here (rows_of l.shelf) store;
      honest : HasCleanDisk here → HasCleanDisk old;
      spares : SparesStore (IsKeptIn (base_of l.fn.shelf) old (rows_of l.fn.shelf)) old here;
      same : (store : Store) → IsKeptIn (base_of l.fn.shelf) old (rows_of l.fn.shelf) store → HasCleanDisk here → here.now.schema ≡ old.now.schema;
    }

-- the numbers up to the last one
abbrev pub decreases-loop-left : goal.decreases-loop-left
decreases-loop-left g l = l.last + 1 - l.next
