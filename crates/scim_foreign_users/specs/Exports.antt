-- The items of an export of another SCIM server.
use Rattle.std.specs.Prelude.{◌≡◌, List, Option, Some, String, map, option_and_then, string_bytes, codes}
use Rattle.std.specs.Option.{option_or}
use Rattle.std.specs.declared.alloc.Global.{Global}
use Rattle.serde_json.specs.Data.{Data, Items}
use Rattle.serde_json.specs.Find.{as_array, as_object}
use Rattle.serde_json.specs.Read.{read}
use Rattle.scim_body.specs.BodyNames.{value_named, items_list}

-- the value of `Resources`, a key in any case, of a list response (RFC 7644 section 3.4.2); None if there is none
abbrev pub resources_in : Data → Option Data
resources_in d = option_and_then (value_named (codes "Resources")) (as_object d)

-- the items of an export: the value itself, if it is a list, or its `Resources`; None if neither is a list
abbrev pub items_in : Data → Option Items
items_in d = option_or (as_array d) (option_and_then as_array (resources_in d))

-- the items of an export with this JSON value, or for None of a text that isn't JSON
abbrev pub exported : Option Data → Option Items
exported d = option_and_then items_in d

-- the texts are JSON texts of the items, in order
abbrev pub AreTextsOf : Items → List (String Global) → Type 0
AreTextsOf ds texts = map (λ t. read (string_bytes t)) texts ≡ map (λ d. Some d) (items_list ds)
