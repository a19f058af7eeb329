-- Lists in JSON objects.
use Rattle.std.specs.Prelude.{ℕ, List, [], Option, None, Some, option_and_then}
use Rattle.std.specs.List.{cons_option}
use Rattle.json.specs.Json.{Json, Items, no_items, item}
use Rattle.json.specs.Find.{get, as_str, as_array}

-- the strings among the items of an array
abbrev pub strings_in : Items → List (List ℕ)
strings_in no_items = []
strings_in (item d ds) = cons_option (as_str d) (strings_in ds)

-- the items of the array at a key of an object; None if there is no such array
abbrev pub items_under : List ℕ → Json → Option Items
items_under key d = option_and_then as_array (get key d)

-- the strings among these items; none if there are no items
abbrev pub strings_among : Option Items → List (List ℕ)
strings_among None = []
strings_among (Some ds) = strings_in ds

-- the strings in the array at a key of an object; none if there is no such array
abbrev pub texts_under : List ℕ → Json → List (List ℕ)
texts_under key d = strings_among (items_under key d)
