use Rattle.std.proofs.Common.{◌≡◌, take, map}
use Rattle.serde_json.specs.View.{view}
use Rattle.scim_discovery.specs.ResourceTypes.{resource_type_data}
use Rattle.scim_discovery.proofs.resource_types.resource_type_values.Given as goal

-- so far there is a value for each
abbrev pub invariant-loop-kind : goal.invariant-loop-kind
invariant-loop-kind l = map view l.values.items ≡ map resource_type_data (take l.kind-index l.kind-items)
