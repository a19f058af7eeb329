use Rattle.std.proofs.Common.{◌≡◌, sym, ap, ◌∙◌}
use Rattle.std.specs.Prelude.{Some, None}
use Rattle.scim_schema.specs.declared.Kind.TheVariants.{User, Group}
use Rattle.scim_schema.specs.Names.{attribute_name}
use Rattle.scim_schema.specs.Table.{attributes}
use Rattle.scim_store_rows.proofs.BackLemmas.{with_name, user_attribute_named, group_attribute_named}
use Rattle.scim_store_rows.proofs.leaf_paths.attribute_of.Goals as goal

pub returns-in-Some : goal.returns-in-Some
returns-in-Some c =
    let is : with_name attribute_name (attributes User) c.args.name.now ≡ Some c.in-Some.attribute = sym (ap (λ all. with_name attribute_name all c.args.name.now) c.attributes.ensures) ∙ sym c.attribute_in.ensures ∙ c.in-Some.is in
    user_attribute_named c.args.name.now c.in-Some.attribute is

pub returns-in-None : goal.returns-in-None
returns-in-None c =
    let none : with_name attribute_name (attributes User) c.args.name.now ≡ None = sym (ap (λ all. with_name attribute_name all c.args.name.now) c.attributes.ensures) ∙ sym c.attribute_in.ensures ∙ c.in-None.is in
    let is : c.attribute_in-in-None.result ≡ with_name attribute_name (attributes Group) c.args.name.now = c.attribute_in-in-None.ensures ∙ ap (λ all. with_name attribute_name all c.args.name.now) c.attributes-in-None.ensures in
    rw is (group_attribute_named c.args.name.now none)
