use Rattle.std.proofs.Common.{◌≡◌, ℕ, List, ◌++◌}
use Rattle.std.specs.Prelude.{All}
use Rattle.scim_cell.specs.Ids.{IsId}
use Rattle.scim_store.specs.Damage.{AreOrdered, HoldsAt}
use Rattle.scim_store.proofs.damage.first_damage.Given as goal

-- the rows of the ids so far hold, if all are in order
abbrev pub invariant-loop-id : goal.invariant-loop-id
invariant-loop-id l = (done : List (List ℕ)) × (l.ids.keys ≡ done ++ l.id-iterator) × All (λ id. IsId id × (AreOrdered l.tables → HoldsAt l.version l.base l.tables id)) done
