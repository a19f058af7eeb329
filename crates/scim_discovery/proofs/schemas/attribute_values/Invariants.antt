use Rattle.std.proofs.Common.{◌≡◌, take, map, filter}
use Rattle.serde_json.specs.View.{view}
use Rattle.scim_discovery.specs.Attributes.{attribute_data}
use Rattle.scim_discovery.specs.code.Listed.{is_listed}
use Rattle.scim_discovery.proofs.schemas.attribute_values.Given as goal

-- so far there is a value for each attribute that is listed
abbrev pub invariant-loop-attribute : goal.invariant-loop-attribute
invariant-loop-attribute l = map view l.values.items ≡ map (attribute_data l.kind) (filter (is_listed l.kind l.schema) (take l.attribute-index l.attribute-items))
