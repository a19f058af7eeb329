use Rattle.std.proofs.Common.{◌≡◌, ap, ◌∙◌}
use Rattle.scim_schema.specs.Names.{sub_attribute_name}
use Rattle.scim_schema.specs.Names.{all_sub_attributes}
use Rattle.scim_store_rows.proofs.BackLemmas.{with_name, sub_attribute_named}
use Rattle.scim_store_rows.proofs.leaf_paths.sub_attribute_of.Goals as goal

pub returns : goal.returns
returns c =
    let is : c.sub_attribute_in.result ≡ with_name sub_attribute_name all_sub_attributes c.args.name.now = c.sub_attribute_in.ensures ∙ ap (λ all. with_name sub_attribute_name all c.args.name.now) c.all.ensures in
    rw is (sub_attribute_named c.args.name.now)
