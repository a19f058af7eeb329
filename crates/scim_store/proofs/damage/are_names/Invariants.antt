use Rattle.std.proofs.Common.{◌≡◌, map, take}
use Rattle.scim_value.specs.Uniqueness.{name_of}
use Rattle.scim_store.specs.code.Damage.{owned_name}
use Rattle.scim_store.proofs.damage.are_names.Given as goal

-- the rows so far are those of the names so far
abbrev pub invariant-loop-at : goal.invariant-loop-at
invariant-loop-at l = take l.at l.rows ≡ map (owned_name l.id) (take l.at (map name_of l.names))
