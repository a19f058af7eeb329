-- What other crates may use of the proofs here.
pub use Rattle.scim_schema.proofs.JsonKeyLemmas.{all_attributes, extension_attributes, part_keys, sub_attributes}
pub use Rattle.scim_schema.proofs.LeafLemmas.{and_first, and_second, attribute_one, is_same_leaf-Decides, is_same_unit-Decides, leaf_one, leaf_same, option_one, sub_attribute_one}
