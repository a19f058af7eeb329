use Rattle.std.proofs.Common.{ap, sym, ◌∙◌}
use Rattle.scim_cell.specs.Rows.{atom_at, values, rows}
use Rattle.scim_schema.specs.declared.Unit.{Unit as AttributeUnit}
use Rattle.scim_value.proofs.GetLemmas.{get_cell}
use Rattle.scim_value.proofs.OfLemmas.{sound_part}
use Rattle.scim_value.proofs.parts.Part.get.Goals as goal

pub returns : goal.returns
returns c =
    c.atom_at.ensures ∙ ap (atom_at c.args.leaf c.args.position) c.values.ensures.rows
    ∙ ap (λ (u : AttributeUnit). atom_at c.args.leaf c.args.position (values u (rows c.args.self.now))) c.unit_of.ensures
    ∙ sym (get_cell c.args.self.now c.values.ensures.valid (sound_part c.args.self.now c.values.ensures.valid) c.args.leaf c.args.position)
