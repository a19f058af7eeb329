-- The leaves that a path of `explain` covers, and the text that explains the decisions on them.
use Rattle.std.specs.Prelude.{ℕ, Bool, false, List, [], ◌++◌, length, nat_lt, filter, codes, Option, None, Some, option_and_then, if◌then◌else◌}
use Rattle.std.specs.List.{flat_map, list_any}
use Rattle.scim_schema.specs.declared.Kind.{Kind}
use Rattle.scim_schema.specs.declared.Op.{Op}
use Rattle.scim_schema.specs.declared.Leaf.{Leaf}
use Rattle.scim_schema.specs.Table.{leaves}
use Rattle.scim_schema.specs.Units.{leaf_at, is_same_attribute, is_same_leaf}
use Rattle.scim_cell.specs.Content.{Content}
use Rattle.scim_audit.specs.Rows.{leaf_path}
use Rattle.scim_filter_grammar.specs.declared.tree.Meant.{Meant}
use Rattle.scim_filter_grammar.specs.declared.tree.Meant.TheVariants.{Nothing, Attribute, SubAttribute}
use Rattle.scim_filter_grammar.specs.Spelled.{path_in}
use Rattle.scim_policy.specs.Rules.{Rule}
use Rattle.scim_explain.specs.Explain.{explained}
use Rattle.scim_explain.specs.Texts.{explanation_text}

-- whether a path names the leaf's attribute or the leaf itself
abbrev pub covers : Meant → Leaf → Bool
covers Nothing l = false
covers (Attribute a) l = is_same_attribute l.attribute a
covers (SubAttribute a b) l = is_same_leaf l (leaf_at a b)

-- the path, if it covers a leaf of the kind
abbrev pub if_covering : Kind → Meant → Option Meant
if_covering kind path = if list_any (covers path) (leaves kind) then Some path else None

-- the path of the kind with this text, as in a policy file; None if the kind has none with this name
abbrev pub path_named : Kind → List ℕ → Option Meant
path_named kind text = option_and_then (λ path. if_covering kind path.meant) (path_in kind text)

-- the leaves of a kind that a path covers, in table order
abbrev pub covered : Kind → Meant → List Leaf
covered kind path = filter (covers path) (leaves kind)

-- the line before the explanation of a leaf
abbrev pub heading : Bool → Leaf → List ℕ
heading headed l = if headed then leaf_path l ++ codes ":\n" else []

-- the explanation of the decision on a leaf, with a heading or without
abbrev pub leaf_text : List Rule → List ℕ → Op → Content → Bool → Leaf → List ℕ
leaf_text policy client op c headed l = heading headed l ++ explanation_text (explained policy client op c l)

-- the explanations of the decisions on the leaves that a path covers, in table order, with headings if there are
-- several
abbrev pub path_text : List Rule → List ℕ → Op → Content → Meant → List ℕ
path_text policy client op c path =
    flat_map (leaf_text policy client op c (nat_lt 1 (length (covered c.kind path)))) (covered c.kind path)
