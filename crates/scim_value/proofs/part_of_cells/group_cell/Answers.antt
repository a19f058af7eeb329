use Rattle.std.proofs.Common.{◌≡◌, ◌∙◌, ap, sym, List, [], ◌∷◌, ◌++◌}
use Rattle.scim_cell.specs.declared.rows.Field.{Field}
use Rattle.scim_cell.specs.Content.{entry_of}
use Rattle.scim_cell.specs.Rows.{Row, field_of}
use Rattle.scim_value.specs.code.Grouping.{grouped}
use Rattle.scim_value.proofs.GroupLemmas.{grouped_last}
use Rattle.scim_value.proofs.part_of_cells.group_cell.Goals as goal

pub returns-in-Some : goal.returns-in-Some
returns-in-Some c =
    let field : Field = field_of (entry_of c.args.cell) in
    let row : c.new.result ≡ record { unit = c.in-Some.last.unit; fields = c.in-Some.last.fields ++ field ∷ [] }
    = λ i. record {
      unit = (c.new.ensures.unit ∙ c.unit-unit.ensures) i;
      fields = (c.new.ensures.fields ∙ c.in_ok-push.ensures.items ∙ ap (λ (fs : List Field). fs ++ field ∷ []) c.into_fields-fields.ensures) i;
    } in
    c.in_ok-push-2.ensures.items ∙ ap (λ (r : Row). c.pop.new.self.items ++ r ∷ []) row ∙ sym (grouped_last c.pop.new.self.items c.in-Some.last (entry_of c.args.cell))
    ∙ (λ i. grouped (sym c.if-is_joined.true i) (entry_of c.args.cell) (sym c.in-Some.ensures.items i))
