use Rattle.std.proofs.Common.{◌≡◌, map, take}
use Rattle.scim_store.specs.code.Damage.{owned_member}
use Rattle.scim_store.proofs.damage.are_members.Given as goal

-- the rows so far are those of the values so far
abbrev pub invariant-loop-at : goal.invariant-loop-at
invariant-loop-at l = take l.at l.rows ≡ map (owned_member l.id) (take l.at l.values)
