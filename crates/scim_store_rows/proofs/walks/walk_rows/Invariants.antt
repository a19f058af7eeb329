use Rattle.std.proofs.Common.{◌≡◌, false, List, []}
use Rattle.sqlite.specs.Order.{Row}
use Rattle.sqlite.specs.State.{HasCleanDisk, IsUnchanged}
use Rattle.sqlite.specs.Held.{state}
use Rattle.sqlite.specs.Given.{HasGiven}
use Rattle.scim_shelf.specs.Stores.{Store}
use Rattle.scim_store_tables.specs.Reading.{Spares}
use Rattle.scim_store_tables.proofs.Facts.{resources_text}
use Rattle.scim_store_rows.specs.Finding.{StandsIn}
use Rattle.scim_store_rows.proofs.WalkLemmas.{TookRows}
use Rattle.scim_store_rows.proofs.walks.walk_rows.Given as goal

-- of the rows that were given so far the visitor has been shown those of the kind, and nothing is changed
abbrev pub invariant-rows : goal.invariant-rows
invariant-rows g l = record {
  same_reference : l.rows.conn.ghost_name ≡ l.initial.rows.conn.ghost_name;
  mode : l.fn.conn.in_transaction ≡ false → l.rows.conn.now.in_transaction ≡ false;
  spares : Spares (state g.S.Store l.fn.conn) (state g.S.Store l.rows.conn.now);
  given : (list : List Row) × ((store : Store) → StandsIn l.base (state g.S.Store l.fn.conn) store → HasCleanDisk (state g.S.Store l.rows.conn.now)
      → HasGiven g.S.Store resources_text [] l.rows.conn.now list × IsUnchanged (state g.S.Store l.fn.conn) (state g.S.Store l.rows.conn.now))
      × TookRows g.V.Visitor.takes l.base l.kind l.codes l.fn.visitor list l.visitor;
}
