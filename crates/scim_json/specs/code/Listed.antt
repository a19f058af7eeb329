-- The reading of a users file by tokens, item by item.
use Rattle.std.specs.Prelude.{◌≡◌, ◌⊎◌, ◌≤◌, ℕ, List, [], ◌∷◌, length, Option, Some, None, option_and_then}
use Rattle.json.specs.Token.{Token}
use Rattle.json.specs.Json as json
use Rattle.serde_json.specs.Data.{Data, Items}
use Rattle.serde_json.specs.Read.{of_json, of_items, converted}
use Rattle.scim_cell.specs.Content.{Content}
use Rattle.scim_json.specs.Documents.{documents_and, AreResourcesBelow}

-- the maximum nesting depth of an item
abbrev pub item_depth : ℕ
item_depth = 126

-- the items of a list up to its end, and the tokens after it; at most so many turns are taken
abbrev pub items_in : ℕ → List Token → Option (Items × List Token)
items_in turns ts = converted of_items (json.items (json.value item_depth) turns ts)

-- the items, if no token follows the end of the list
abbrev pub if_end : Items → List Token → Option Items
if_end ds [] = Some ds
if_end ds (t ∷ ts) = None

-- the items of a list up to its end, if no token follows it
abbrev pub rest_of_list : ℕ → List Token → Option Items
rest_of_list turns ts = option_and_then (λ p. if_end p.0 p.1) (items_in turns ts)

-- the tokens begin with an item that has a value, and `rest` are the tokens after it
abbrev pub IsItem : List Token → List Token → Type 0
IsItem ts rest = (j : json.Json) × (json.value item_depth ts ≡ Some (j, rest)) × (d : Data) × (of_json j ≡ Some d)

-- the tokens don't begin with an item that has a value
abbrev pub IsNoItem : List Token → Type 0
IsNoItem ts = (json.value item_depth ts ≡ None) ⊎ ((j : json.Json) × (rest : List Token) × (json.value item_depth ts ≡ Some (j, rest)) × (of_json j ≡ None))

-- the item has a value, and the tokens after it are the rest of a list
abbrev pub IsInList : json.Json → List Token → Type 0
IsInList j rest = (d : Data) × (of_json j ≡ Some d) × ((turns : ℕ) → length rest ≤ turns → (ds : Items) × (rest_of_list turns rest ≡ Some ds))

-- the item has no value, or the tokens after it aren't the rest of a list
abbrev pub IsInNoList : json.Json → List Token → Type 0
IsInNoList j rest = (of_json j ≡ None) ⊎ ((turns : ℕ) → length rest ≤ turns → rest_of_list turns rest ≡ None)

-- of the tokens of a list, the stored documents of these resources are read, and `left` are the tokens after
-- them
pub record HaveTaken (base : List ℕ) (all : List Token) (cs : List Content) (left : List Token) : Type 0 where
  pub below : AreResourcesBelow base cs
  pub turns : ℕ
  pub enough : length left ≤ turns
  pub reads : items_in (length all) all ≡ json.parse_map (documents_and cs) (items_in turns left)
