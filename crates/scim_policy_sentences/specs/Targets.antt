-- The target of a rule as a text, in the syntax of policy files (RFC 7644 section 3.4.2.2).
use Rattle.std.specs.Prelude.{ℕ, Bool, true, false, List, ◌++◌, codes, Option, find, if◌then◌else◌}
use denote.Enum.Bare.{sameb}
use Rattle.serde_json.specs.Data.{Data, null, boolean, number, string}
use Rattle.serde_json.specs.Find.{of_integer}
use Rattle.serde_json.specs.Written.{compact_text}
use Rattle.scim_schema.specs.declared.Kind.{Kind}
use Rattle.scim_schema.specs.contracts.Kind.{the_type as the_kind}
use Rattle.scim_filter_grammar.specs.declared.tree.Operator.{Operator}
use Rattle.scim_filter_grammar.specs.declared.tree.Operator.TheVariants.{Eq, Ne, Co, Sw, Ew, Gt, Ge, Lt, Le}
use Rattle.scim_filter_grammar.specs.declared.tree.Literal.{Literal}
use Rattle.scim_filter_grammar.specs.declared.tree.Literal.TheVariants as literal
use Rattle.scim_filter_grammar.specs.declared.tree.AttributePath.{AttributePath}
use Rattle.scim_filter_grammar.specs.Names.{names_text, path_text}
use Rattle.scim_filter_grammar.specs.Tree.{Tree, Or, And, Not, Present, Compare, Values}
use Rattle.scim_policy.specs.Rules.{Target}

-- the keyword of an operator
abbrev pub operator_word : Operator → List ℕ
operator_word Eq = codes "eq"
operator_word Ne = codes "ne"
operator_word Co = codes "co"
operator_word Sw = codes "sw"
operator_word Ew = codes "ew"
operator_word Gt = codes "gt"
operator_word Ge = codes "ge"
operator_word Lt = codes "lt"
operator_word Le = codes "le"

-- a literal as a JSON value
abbrev pub literal_data : Literal → Data
literal_data (literal.Text text) = string text
literal_data (literal.Number z) = number (of_integer z)
literal_data (literal.Truth b) = boolean b
literal_data literal.Null = null

-- a path as it was written
abbrev pub path_words : AttributePath → List ℕ
path_words p = path_text p.urn (names_text p.name p.sub_name)

-- the text, in brackets if the Bool is true
abbrev pub bracketed : Bool → List ℕ → List ℕ
bracketed needs text = if needs then codes "(" ++ text ++ codes ")" else text

-- whether a tree is an `or`
abbrev pub is_or : Tree → Bool
is_or (Or a b) = true
is_or t = false

-- whether a tree is an `or` or an `and`
abbrev pub is_join : Tree → Bool
is_join (Or a b) = true
is_join (And a b) = true
is_join t = false

-- the text of a filter; `and` binds tighter than `or` and both nest to the right, so other nestings are in
-- brackets, as is the operand of `not`
abbrev pub tree_text : Tree → List ℕ
tree_text (Or a b) = bracketed (is_or a) (tree_text a) ++ codes " or " ++ tree_text b
tree_text (And a b) = bracketed (is_join a) (tree_text a) ++ codes " and " ++ bracketed (is_or b) (tree_text b)
tree_text (Not a) = codes "not " ++ bracketed true (tree_text a)
tree_text (Present path) = path_words path ++ codes " pr"
tree_text (Compare path op l) = path_words path ++ codes " " ++ operator_word op ++ codes " " ++ compact_text (literal_data l)
tree_text (Values path a) = path_words path ++ codes "[" ++ tree_text a ++ codes "]"

-- the target on resources of a kind, if there is one
abbrev pub target_on : Kind → List Target → Option Target
target_on k targets = find (λ t. sameb the_kind k t.kind) targets
