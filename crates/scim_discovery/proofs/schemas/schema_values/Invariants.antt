use Rattle.std.proofs.Common.{◌≡◌, take, map}
use Rattle.serde_json.specs.View.{view}
use Rattle.scim_discovery.specs.Schemas.{schema_data}
use Rattle.scim_discovery.proofs.schemas.schema_values.Given as goal

-- so far there is a value for each
abbrev pub invariant-loop-schema : goal.invariant-loop-schema
invariant-loop-schema l = map view l.values.items ≡ map schema_data (take l.schema-index l.schema-items)
