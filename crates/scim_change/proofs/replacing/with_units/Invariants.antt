use Rattle.std.proofs.Common.{◌≡◌, drop}
use Rattle.scim_cell.specs.Rows.{rows}
use Rattle.scim_change.specs.Replace.{taken, with_units}
use Rattle.scim_change.proofs.replacing.with_units.Given as goal

-- what is left to put in makes of the part what all makes of the one before
abbrev pub invariant-loop-unit : goal.invariant-loop-unit
invariant-loop-unit l =
    (with_units l.draft (taken l.draft (drop l.unit-index l.units)) (rows l.part) ≡ with_units l.draft (taken l.draft l.units) (rows l.fn.part))
    × (l.part.kind ≡ l.fn.part.kind) × (l.part.id ≡ l.fn.part.id)
