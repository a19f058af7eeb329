use Rattle.scim_schema.proofs.JsonKeyLemmas.{all_attributes, all_sub_attributes}
use Rattle.scim_schema.proofs.json_keys.keys_have_all_attributes.Goals as goal

pub returns : goal.returns
returns c = record { attributes = all_attributes; sub_attributes = all_sub_attributes }
