use Rattle.std.proofs.Common.{◌≡◌, take, map}
use Rattle.serde_json.specs.View.{view}
use Rattle.scim_discovery.specs.ResourceTypes.{extension_data}
use Rattle.scim_discovery.proofs.resource_types.extension_values.Given as goal

-- so far there is a value for each
abbrev pub invariant-loop-schema : goal.invariant-loop-schema
invariant-loop-schema l = map view l.values.items ≡ map extension_data (take l.schema-index l.schemas)
