use Rattle.scim_schema.proofs.JsonKeyLemmas.{part_keys, extension_attributes, sub_attributes}
use Rattle.scim_schema.proofs.json_keys.keys_ascend.Goals as goal

pub returns : goal.returns
returns c = record {
  part = part_keys;
  extension = extension_attributes;
  sub_attributes = sub_attributes;
}
