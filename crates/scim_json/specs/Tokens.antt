-- The tokens that the JSON writer receives for a value.
use Rattle.std.specs.Prelude.{◌≡◌, ℕ, List, [], ◌∷◌, ◌++◌, Option, Some, None}
use Rattle.json.specs.Token.{Token, key}
use Rattle.json.specs.Tree.{json_tokens}
use Rattle.json.specs.Tree as tree
use Rattle.json.specs.Written.{Written}
use Rattle.serde_json.specs.Data.{Data, Items, Members}
use Rattle.serde_json.specs.Written.{outline, items_outline, members_outline}

-- the tokens of a JSON value
abbrev pub value_tokens : Data → List Token
value_tokens d = json_tokens (outline d)

-- the tokens of the remaining items and of the end of the array
abbrev pub items_tokens : Items → List Token
items_tokens ds = tree.items_tokens (items_outline ds)

-- the tokens of the remaining members and of the end of the object
abbrev pub members_tokens : Members → List Token
members_tokens ms = tree.members_tokens (members_outline ms)

-- the tokens of a member, or no tokens if there is no value
abbrev pub member_tokens : List ℕ → Option Data → List Token
member_tokens k None = []
member_tokens k (Some d) = key k ∷ value_tokens d

-- the tokens are appended, and nothing else is changed
abbrev pub Adds : Written → Written → List Token → Type 0
Adds old new ts = (new.before ≡ old.before) × (new.tokens ≡ old.tokens ++ ts)
