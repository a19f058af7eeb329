use Rattle.std.proofs.Common.{rules, ◌≡◌, ◌∙◌, ap, filter}
use Rattle.std.specs.Prelude.{not}
use Rattle.std.proofs.lemmas.Fn.{filter_same}
use Rattle.scim_schema.specs.Units.{is_same_leaf}
use Rattle.scim_cell.specs.declared.rows.Field.{Field}
use Rattle.scim_patch_values.specs.Fields.{without}
use Rattle.scim_patch_values.proofs.fields.row_without.Goals as goal

pub returns : goal.returns
returns c =
    let kept = filter_same _ (λ (x : Field). not (is_same_leaf x.leaf c.args.leaf)) _ (λ x b f' h. (search rules, search rules)) _ _ c.retain.ensures.filtered in
    let unit = c.new.ensures.unit ∙ c.unit-unit.ensures in
    let fields = c.new.ensures.fields ∙ kept ∙ ap (without c.args.leaf) c.into_fields-fields.ensures in
    λ i. record { unit = unit i; fields = fields i }
