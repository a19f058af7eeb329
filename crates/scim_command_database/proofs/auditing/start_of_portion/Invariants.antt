use Rattle.std.proofs.Common.{◌≡◌, ◌≤◌, ◌+◌, ◌-◌, length}
use Rattle.sqlite.specs.Held.{state}
use Rattle.sqlite.specs.State.{HasCleanDisk}
use Rattle.scim_audit_listing.specs.Listings.{fitting}
use Rattle.scim_shelf.specs.Stores.{Store, last_number}
use Rattle.scim_store.specs.Shelves.{IsKeptIn}
use Rattle.scim_store.specs.SqlShelves.{base_of, connection_of, rows_of}
use Rattle.scim_command_database.specs.Audit.{SparesStore}
use Rattle.scim_command_database.proofs.auditing.start_of_portion.Given as goal

-- the rows behind the end have been counted
abbrev pub invariant-loop-end : goal.invariant-loop-end
invariant-loop-end g l =
    let old = state g.S.Store (connection_of l.fn.shelf) in
    let here = state g.S.Store (connection_of l.shelf) in
    record {
      few : l.left ≤ l.count;
      bounded : l.end ≤ last_number;
      counted : (store : Store) → IsKeptIn (base_of l.fn.shelf) old (rows_of l.fn.shelf) store → HasCleanDisk here → length (fitting l.listing.filter (l.end + 1) store.audit) + l.left ≡ l.count;
      keeps : (store : Store) → IsKeptIn (base_of l.fn.shelf) old (rows_of l.fn.shelf) store → IsKeptIn (base_of l.shelf) here (rows_of l.shelf) store;
      honest : HasCleanDisk here → HasCleanDisk old;
      spares : SparesStore (IsKeptIn (base_of l.fn.shelf) old (rows_of l.fn.shelf)) old here;
      same : (store : Store) → IsKeptIn (base_of l.fn.shelf) old (rows_of l.fn.shelf) store → HasCleanDisk here → here.now.schema ≡ old.now.schema;
    }

-- the rows that aren't counted
abbrev pub decreases-loop-end : goal.decreases-loop-end
decreases-loop-end g l = l.end
