-- The shapes of JSON values.
use Rattle.std.proofs.Common.{◌≡◌, List, [], ◌∷◌, length, map, false, eqb, Some, refl, ap}
use Rattle.std.specs.declared.alloc.Global.{Global}
use Rattle.json.specs.Json.{Json}
use Rattle.json.specs.Find.{as_array}
use Rattle.json.specs.Value.{value_view, items_of, items_view}
use Rattle.json.specs.declared.value.Value.{Value}
use Rattle.scim_policy_file.specs.File.{listed, filled, items_in}

-- the items of an array of a list are the list
listed_items : (ds : List Json) → listed (items_of ds) ≡ ds
listed_items [] = refl
listed_items (d ∷ ds) = ap (λ (es : List Json). d ∷ es) (listed_items ds)

filled_items : (vs : List (Value Global)) → eqb (length vs) 0 ≡ false → filled (map value_view vs) ≡ Some (map value_view vs)
filled_items [] h = cc
filled_items (v ∷ vs) h = refl

-- the items of an array that isn't empty
pub items_there : (d : Json) (vs : List (Value Global)) → as_array d ≡ Some (items_view vs) → eqb (length vs) 0 ≡ false → items_in d ≡ Some (map value_view vs)
items_there d vs array full = rw (array, listed_items (map value_view vs)) (filled_items vs full)
