use Rattle.std.proofs.Common.{rules}
use Rattle.scim_value.proofs.PositionLemmas.{number_filled}
use Rattle.scim_value.proofs.parts.Part.positions.Goals as goal

pub returns-then-has_attribute-clause-filled : goal.returns-then-has_attribute-clause-filled
returns-then-has_attribute-clause-filled c = number_filled c.args.self.now c.args.attribute 1 c.rows.ensures.valid (search rules)

pub returns-else-has_attribute-clause-filled : goal.returns-else-has_attribute-clause-filled
returns-else-has_attribute-clause-filled c = number_filled c.args.self.now c.args.attribute 0 c.rows.ensures.valid (search rules)
