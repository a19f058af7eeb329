use Rattle.std.proofs.Common.{◌≡◌, false, take}
use Rattle.std.specs.Prelude.{IsTrue}
use Rattle.sqlite.specs.State.{HasCleanDisk}
use Rattle.sqlite.specs.Held.{state}
use Rattle.scim_shelf.specs.Stores.{Store}
use Rattle.scim_store_tables.specs.Tables.{store_schema}
use Rattle.scim_store_tables.specs.Reading.{Spares}
use Rattle.scim_store_rows.specs.Finding.{StandsIn}
use Rattle.scim_store_rows.specs.code.Finding.{AreGroups}
use Rattle.scim_store_rows.proofs.look_ups.find_groups.Given as goal

abbrev pub invariant-loop-row : goal.invariant-loop-row
invariant-loop-row g l = record {
  mode : l.fn.conn.in_transaction ≡ false → l.conn.in_transaction ≡ false;
  spares : Spares (state g.S.Store l.fn.conn) (state g.S.Store l.conn);
  keeps : HasCleanDisk (state g.S.Store l.conn) → (state g.S.Store l.fn.conn).now.schema ≡ store_schema → (state g.S.Store l.conn).now.schema ≡ store_schema;
  found : HasCleanDisk (state g.S.Store l.conn) → (store : Store) → StandsIn l.base (state g.S.Store l.fn.conn) store → IsTrue (state g.S.Store l.fn.conn).is_open
      → AreGroups store (take l.row-index l.rows) (state g.S.Store l.fn.conn) (state g.S.Store l.conn) l.groups.items;
}
