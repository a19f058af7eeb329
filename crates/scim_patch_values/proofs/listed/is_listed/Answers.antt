use Rattle.std.proofs.Common.{rules, ◌≡◌, ◌∙◌, Some, refl}
use Rattle.scim_schema.specs.declared.SubAttribute.TheVariants.{Value}
use Rattle.scim_schema.specs.Units.{leaf_at}
use Rattle.scim_cell.specs.declared.atoms.Atom.TheVariants.{Text}
use Rattle.scim_cell.specs.Rows.{atom_in}
use Rattle.scim_patch_values.proofs.listed.is_listed.Goals as goal

pub returns-in-Some-Text : goal.returns-in-Some-Text
returns-in-Some-Text c = λ texts h.
    (let found : atom_in (leaf_at c.args.value.now.unit.attribute Value) c.args.value.now.fields ≡ Some (Text c.in-Some-Text.text) = search rules in
    c.contains.ensures ∙ h c.as_str.result.now ∙ rw (found, c.as_str.ensures) refl)
