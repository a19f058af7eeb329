use Rattle.std.proofs.Common.{◌≡◌, drop}
use Rattle.std.specs.List.{list_any}
use Rattle.scim_cell.specs.Rows.{rows}
use Rattle.scim_change.specs.Replace.{changes_unit}
use Rattle.scim_change.proofs.replacing.changes.Given as goal

-- those that are left decide
abbrev pub invariant-loop-unit : goal.invariant-loop-unit
invariant-loop-unit l =
    list_any (changes_unit l.draft (rows l.part)) (drop l.unit-index l.units) ≡ list_any (changes_unit l.draft (rows l.part)) l.units
