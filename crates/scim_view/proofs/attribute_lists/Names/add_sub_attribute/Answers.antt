use Rattle.std.specs.HashSet.{contains}
use Rattle.scim_schema.specs.Units.{is_same_attribute, is_same_leaf}
use Rattle.scim_view.specs.Names.{has_extension_of}
use Rattle.scim_view.proofs.NamesLemmas.{second_more}
use Rattle.scim_view.proofs.attribute_lists.Names.add_sub_attribute.Goals as goal

pub returns : goal.returns
returns c l =
    let old = c.args.self.now in
    second_more (contains is_same_attribute old.attributes l.attribute) (contains is_same_leaf old.sub_attributes l) (has_extension_of old l.attribute) (is_same_leaf c.args.leaf l) _
    (c.in_ok-insert.ensures.updates.0 l)
