-- The parameters that result from reading some pairs of a query string.
use Rattle.std.specs.Prelude.{ℕ, List, codes, Option, None, Some, if◌then◌else◌}
use Rattle.std.specs.Option.{option_or}
use Rattle.scim_text.specs.Names.{is_same_name}
use Rattle.scim_route.specs.declared.query_parameters.Parameters.{Parameters}
use Rattle.scim_route.specs.Parameters.{first_named}

-- the value of a parameter after one more pair is read; a value that the parameter already has is kept
abbrev pub taken : List ℕ → List ℕ × List ℕ → Option (List ℕ) → Option (List ℕ)
taken name pair held = option_or held (if is_same_name pair.0 name then Some pair.1 else None)

-- all parameters after one more pair is read
abbrev pub with_pair : List ℕ × List ℕ → Parameters → Parameters
with_pair pair held = record {
  attributes = taken (codes "attributes") pair held.attributes;
  excluded_attributes = taken (codes "excludedAttributes") pair held.excluded_attributes;
  filter = taken (codes "filter") pair held.filter;
  sort_by = taken (codes "sortBy") pair held.sort_by;
  sort_order = taken (codes "sortOrder") pair held.sort_order;
  start_index = taken (codes "startIndex") pair held.start_index;
  count = taken (codes "count") pair held.count;
}

-- all parameters after these pairs are read
abbrev pub with_pairs : List (List ℕ × List ℕ) → Parameters → Parameters
with_pairs pairs held = record {
  attributes = option_or held.attributes (first_named (codes "attributes") pairs);
  excluded_attributes = option_or held.excluded_attributes (first_named (codes "excludedAttributes") pairs);
  filter = option_or held.filter (first_named (codes "filter") pairs);
  sort_by = option_or held.sort_by (first_named (codes "sortBy") pairs);
  sort_order = option_or held.sort_order (first_named (codes "sortOrder") pairs);
  start_index = option_or held.start_index (first_named (codes "startIndex") pairs);
  count = option_or held.count (first_named (codes "count") pairs);
}
