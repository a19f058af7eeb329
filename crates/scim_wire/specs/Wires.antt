-- The stream that a wire has read, and the items that it returned.
use Rattle.std.specs.Prelude.{◌≡◌, ℕ, List, ◌++◌}
use Rattle.std.specs.List.{flat_map}
use Rattle.scim_wire.specs.declared.messages.Item.{Item}
use Rattle.scim_wire.specs.declared.states.State.TheVariants as state
use Rattle.scim_wire.specs.declared.wires.Wire.{Wire}
use Rattle.scim_wire.specs.Messages.{Turn, Splits, turn_items}
use Rattle.scim_wire.specs.code.Wires.{StandsAt}

-- the wire is shut: it ignores all further bytes
abbrev pub IsShut : Wire → Type 0
IsShut wire = wire.state ≡ state.Shut

-- the wire has the state that a new wire has after it has read `stream` and returned `items`
pub record StandsFor (wire : Wire) (stream : List ℕ) (items : List Item) : Type 0 where
  pub turns : List Turn
  pub rest : List ℕ
  pub last : List Item
  pub splits : Splits stream turns rest
  pub stands : StandsAt wire.state rest last
  pub gave : items ≡ flat_map turn_items turns ++ last
