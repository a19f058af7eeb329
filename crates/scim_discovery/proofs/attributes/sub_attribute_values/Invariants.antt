use Rattle.std.proofs.Common.{◌≡◌, take, map}
use Rattle.serde_json.specs.View.{view}
use Rattle.scim_discovery.specs.Attributes.{sub_attribute_data}
use Rattle.scim_discovery.proofs.attributes.sub_attribute_values.Given as goal

-- so far there is a value for each sub-attribute
abbrev pub invariant-loop-sub_attribute : goal.invariant-loop-sub_attribute
invariant-loop-sub_attribute l = map view l.values.items ≡ map (sub_attribute_data l.attribute) (take l.sub_attribute-index l.sub_attribute-items)
