-- The clients, operations and types of a rule: the first word that names nothing.
use Rattle.std.specs.Prelude.{◌≡◌, ℕ, List, codes, find, Option, None, Some, is_none}
use Rattle.json.specs.Json.{Json}
use Rattle.scim_schema.specs.Lookup.{kind_named, operation_named}
use Rattle.scim_policy_file.specs.Paths.{client_named}
use Rattle.scim_fault_details.specs.JsonLists.{texts_under}
use Rattle.scim_fault_details.specs.declared.rule_words.WordDetail.{WordDetail}
use Rattle.scim_fault_details.specs.declared.rule_words.WordDetail.TheVariants.{Client, Operation, Kind}

-- the first client of a rule that is neither `*` nor a client's name
abbrev pub unnamed_client : Json → Option (List ℕ)
unnamed_client rule = find (λ t. is_none (client_named t)) (texts_under (codes "clients") rule)

-- the first operation of a rule that there isn't
abbrev pub unnamed_operation : Json → Option (List ℕ)
unnamed_operation rule = find (λ t. is_none (operation_named t)) (texts_under (codes "ops") rule)

-- the first type of a rule that there isn't
abbrev pub unnamed_type : Json → Option (List ℕ)
unnamed_type rule = find (λ t. is_none (kind_named t)) (texts_under (codes "types") rule)

-- the detail names the first word of the rule that names nothing, looked for among the clients, then the operations,
-- then the types; there is no detail if each names something
abbrev pub IsFirstUnnamed : Json → Option WordDetail → Type 0
IsFirstUnnamed rule None = (unnamed_client rule ≡ None) × (unnamed_operation rule ≡ None) × (unnamed_type rule ≡ None)
IsFirstUnnamed rule (Some (Client word)) = unnamed_client rule ≡ Some word.now
IsFirstUnnamed rule (Some (Operation word near)) = (unnamed_client rule ≡ None) × (unnamed_operation rule ≡ Some word.now)
IsFirstUnnamed rule (Some (Kind word near)) = (unnamed_client rule ≡ None) × (unnamed_operation rule ≡ None) × (unnamed_type rule ≡ Some word.now)
