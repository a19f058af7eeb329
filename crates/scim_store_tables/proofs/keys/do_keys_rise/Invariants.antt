use Rattle.std.proofs.Common.{◌≡◌, None, drop, take, true}
use Rattle.std.specs.List.{AllByRecursion}
use Rattle.sqlite.specs.Tree.{rowid}
use Rattle.sqlite.specs.View.{is_int}
use Rattle.scim_store_tables.specs.code.Keys.{rise_from}
use Rattle.scim_store_tables.proofs.keys.do_keys_rise.Given as goal

abbrev pub invariant-loop-row : goal.invariant-loop-row
invariant-loop-row l = record {
  passed : rise_from None l.rows ≡ rise_from l.last (drop l.row-index l.rows);
  numbers : AllByRecursion (λ r. is_int (rowid r) ≡ true) (take l.row-index l.rows);
}
