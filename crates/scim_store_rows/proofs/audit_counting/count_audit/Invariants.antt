use Rattle.std.proofs.Common.{◌≡◌, false}
use Rattle.sqlite.specs.Held.{state}
use Rattle.scim_store_tables.specs.declared.versions.Version.{Version}
use Rattle.scim_store_tables.specs.Reading.{SparesIn}
use Rattle.scim_store_rows.proofs.CountLemmas.{Counts}
use Rattle.scim_store_rows.proofs.audit_counting.count_audit.Given as goal

-- the rows that were given so far are valid audit rows, and nothing is changed
abbrev pub invariant-rows : goal.invariant-rows
invariant-rows g l = record {
  same_reference : l.rows.conn.ghost_name ≡ l.initial.rows.conn.ghost_name;
  mode : l.fn.conn.in_transaction ≡ false → l.rows.conn.now.in_transaction ≡ false;
  spares : (version : Version) → SparesIn version (state g.S.Store l.fn.conn) (state g.S.Store l.rows.conn.now);
  counts : Counts g.S.Store (state g.S.Store l.fn.conn) l.rows.conn.now l.count;
}
