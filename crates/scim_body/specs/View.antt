-- The JSON value that a tree represents (RFC 8259).
use Rattle.std.specs.Prelude.{ℕ, List, [], ◌∷◌, map}
use Rattle.std.specs.Borrow.{Bor}
use Rattle.serde_json.specs.Data.{Data, null, boolean, number, string, array, object, Items, Members, no_members, member}
use Rattle.serde_json.specs.View.{number_view, items_of}
use Rattle.scim_body.specs.declared.trees.Tree.{Tree, fold-Tree}
use Rattle.scim_body.specs.declared.trees.Tree.TheOpen.{Tree-F}

-- the members of an object, from pairs of a key and a JSON value
abbrev pub members_of : List (Bor (List ℕ) × Data) → Members
members_of [] = no_members
members_of (m ∷ ms) = member m.0.now m.1 (members_of ms)

-- the JSON value of one level of a tree, from the JSON values of its inner trees
abbrev pub view_step : Tree-F Data → Data
view_step Tree-F.Null = null
view_step (Tree-F.Bool b) = boolean b
view_step (Tree-F.Number x) = number (number_view x)
view_step (Tree-F.String s) = string s.now
view_step (Tree-F.Array v) = array (items_of v.items)
view_step (Tree-F.Object v) = object (members_of v.items)

-- the JSON value of a tree
abbrev pub view : Tree → Data
view = fold-Tree Data view_step

-- the items of an array of trees
abbrev pub items_view : List Tree → Items
items_view ts = items_of (map view ts)

-- the members of an object of trees
abbrev pub members_view : List (Bor (List ℕ) × Tree) → Members
members_view ms = members_of (map (λ m. (m.0, view m.1)) ms)
