use Rattle.std.proofs.Common.{take}
use Rattle.scim_cell.specs.code.Keys.{Covers}
use Rattle.scim_cell.proofs.distinct_values.places_of.Given as goal

-- the map has just the keys of the values before this one
abbrev pub invariant-loop-place : goal.invariant-loop-place
invariant-loop-place l = Covers l.places l.attribute (take l.place l.values)
