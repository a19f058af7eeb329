use Rattle.std.specs.HashSet.{contains}
use Rattle.scim_schema.specs.Schemas.{extension_of, is_same_schema}
use Rattle.scim_schema.specs.Units.{is_same_attribute, is_same_leaf}
use Rattle.scim_view.proofs.NamesLemmas.{third_more}
use Rattle.scim_view.proofs.attribute_lists.Names.add_extension.Goals as goal

pub returns : goal.returns
returns c l =
    let old = c.args.self.now in
    rw c.in-Some.is
    (third_more (contains is_same_attribute old.attributes l.attribute) (contains is_same_leaf old.sub_attributes l) (extension_of l.attribute) (contains is_same_schema old.extensions) (contains is_same_schema c.insert.new.self)
    c.in-Some.schema c.in_ok-insert.ensures.updates.0)
