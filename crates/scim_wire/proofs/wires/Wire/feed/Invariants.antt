use Rattle.std.proofs.Common.{◌≡◌, ◌-◌, ◌≤◌, ℕ, List, [], ◌++◌, length, take}
use Rattle.scim_wire.specs.declared.messages.Item.{Item}
use Rattle.scim_wire.specs.declared.states.State.TheVariants as state
use Rattle.scim_wire.specs.Wires.{IsShut, StandsFor}
use Rattle.scim_wire.proofs.wires.Wire.feed.Given as goal

abbrev pub invariant-loop-state : goal.invariant-loop-state
invariant-loop-state l = record {
  within : l.taken ≤ length l.piece;
  stands : (stream : List ℕ) (items : List Item) → StandsFor l.fn.self stream items
      → StandsFor (record { state = l.state }) (stream ++ take l.taken l.piece) (items ++ l.items.items);
  shut : IsShut l.fn.self → (l.items.items ≡ []) × (l.state ≡ state.Shut);
}

abbrev pub decreases-loop-state : goal.decreases-loop-state
decreases-loop-state l = length l.piece - l.taken
