use Rattle.std.proofs.Common.{refl, []}
use Rattle.std.proofs.lemmas.List.Elements.{All-nil}
use Rattle.scim_wire.specs.Messages.{IsTurn}
use Rattle.scim_wire.proofs.wires.Wire.new.Goals as goal

pub returns : goal.returns
returns c = record {
  turns = [];
  rest = [];
  last = [];
  splits = record { each = All-nil IsTurn; split = refl };
  stands = c.new.ensures;
  gave = refl;
}
