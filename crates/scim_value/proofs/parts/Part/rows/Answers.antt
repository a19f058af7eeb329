use Rattle.std.proofs.Common.{ap, sym, ◌∙◌, subst}
use Rattle.scim_cell.specs.Content.{Content, IsPart}
use Rattle.scim_cell.specs.Rows.{rows}
use Rattle.scim_value.proofs.TieLemmas.{rows_content, part_content}
use Rattle.scim_value.proofs.parts.Part.rows.Goals as goal

pub returns-clause-rows : goal.returns-clause-rows
returns-clause-rows c =
    c.as_slice.ensures.value ∙ sym (rows_content c.self.inside.kind c.self.inside.id c.self.inside.rows.items c.self.invariant) ∙ ap rows c.self.view_is

pub returns-clause-valid : goal.returns-clause-valid
returns-clause-valid c = subst (λ (v : Content). IsPart v) c.self.view_is (part_content c.self.inside.kind c.self.inside.id c.self.inside.rows.items c.self.invariant)
