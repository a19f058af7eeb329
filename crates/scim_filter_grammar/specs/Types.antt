-- Which values a filter may compare with which attributes (RFC 7644 section 3.4.2.2, RFC 7643 section 2.3).
use Rattle.std.specs.Prelude.{ℕ, Bool, true, false, not, ◌&&◌, List, [], ◌∷◌, codes, Option, Some, None, if◌then◌else◌}
use Rattle.std.specs.List.{list_any}
use denote.Enum.Bare.{sameb}
use Rattle.scim_schema.specs.declared.Kind.TheVariants.{User}
use Rattle.scim_schema.specs.declared.Attribute.{Attribute}
use Rattle.scim_schema.specs.declared.SubAttribute.{SubAttribute}
use Rattle.scim_schema.specs.declared.SubAttribute.TheVariants.{Value}
use Rattle.scim_schema.specs.declared.Leaf.{Leaf}
use Rattle.scim_schema.specs.contracts.SubAttribute.{the_type as the_sub_attribute}
use Rattle.scim_schema.specs.declared.characteristics.AttributeType.{AttributeType}
use Rattle.scim_schema.specs.declared.characteristics.AttributeType.TheVariants.{String, Boolean, DateTime, Reference, Binary}
use Rattle.scim_schema.specs.Characteristics.{characteristics_of}
use Rattle.scim_schema.specs.Table.{sub_attributes}
use Rattle.scim_schema.specs.Units.{simple, leaf_at}
use Rattle.scim_filter_grammar.specs.declared.tree.Operator.{Operator}
use Rattle.scim_filter_grammar.specs.declared.tree.Operator.TheVariants.{Eq, Ne, Co, Sw, Ew}
use Rattle.scim_filter_grammar.specs.declared.tree.Literal.{Literal}
use Rattle.scim_filter_grammar.specs.declared.tree.Literal.TheVariants as literal
use Rattle.scim_filter_grammar.specs.declared.tree.Meant.{Meant}
use Rattle.scim_filter_grammar.specs.declared.tree.Meant.TheVariants as meant
use Rattle.scim_filter_grammar.specs.Bytes.{is_word}
use Rattle.scim_text.specs.MomentIn.{moment_in}
use Rattle.scim_filter_grammar.specs.Tree.{Tree, Or, And, Not, Present, Compare, Values}

-- the type of a leaf, which is the same for both kinds
abbrev pub type_of : Leaf → AttributeType
type_of leaf = (characteristics_of User leaf).attribute_type

-- the leaf compared for an attribute with these sub-attributes: the attribute itself if it has none, else its
-- `value`; None if no sub-attribute is `value`
abbrev pub leaf_for : Attribute → List SubAttribute → Option Leaf
leaf_for a [] = Some (simple a)
leaf_for a (b ∷ bs) = if list_any (sameb the_sub_attribute Value) (b ∷ bs) then Some (leaf_at a Value) else None

-- the leaf whose cells a filter compares, or a search sorts by, if there is one
abbrev pub compared_leaf : Meant → Option Leaf
compared_leaf meant.Nothing = None
compared_leaf (meant.Attribute a) = leaf_for a (sub_attributes a)
compared_leaf (meant.SubAttribute a b) = Some (leaf_at a b)

-- whether the operator is `eq` or `ne`
abbrev pub is_equality : Operator → Bool
is_equality Eq = true
is_equality Ne = true
is_equality _ = false

-- whether the operator is `co`, `sw` or `ew`
abbrev pub is_part_test : Operator → Bool
is_part_test Co = true
is_part_test Sw = true
is_part_test Ew = true
is_part_test _ = false

-- the boolean that a text spells, in any ASCII case
abbrev pub truth_in : List ℕ → Option Bool
truth_in text = if is_word (codes "true") text then Some true else if is_word (codes "false") text then Some false else None

-- whether there is a value
abbrev pub is_some : {A : Type 0} → Option A → Bool
is_some None = false
is_some (Some x) = true

-- whether the operator may compare cells of this type with this value
abbrev pub suits : AttributeType → Operator → Literal → Bool
suits Boolean op (literal.Truth b) = is_equality op
suits Boolean op (literal.Text text) = is_equality op && is_some (truth_in text)
suits DateTime op (literal.Text text) = not (is_part_test op) && is_some (moment_in text)
suits Binary op (literal.Text text) = is_equality op
suits String op (literal.Text text) = true
suits Reference op (literal.Text text) = true
suits _ _ _ = false

-- whether there is a leaf, and the operator may compare its cells with this value
abbrev pub suits_leaf : Option Leaf → Operator → Literal → Bool
suits_leaf None op x = false
suits_leaf (Some leaf) op x = suits (type_of leaf) op x

-- whether a comparison suits the type of the named attribute or sub-attribute: null may only be tested with
-- `eq` and `ne`; any other value may be compared with a name that the kind doesn't have
abbrev pub fits_comparison : Meant → Operator → Literal → Bool
fits_comparison m op literal.Null = is_equality op
fits_comparison meant.Nothing op x = true
fits_comparison m op x = suits_leaf (compared_leaf m) op x

-- whether there is no sub-attribute
abbrev pub is_empty : List SubAttribute → Bool
is_empty [] = true
is_empty (b ∷ bs) = false

-- whether brackets with a filter may follow the name of this attribute or sub-attribute; false for a simple
-- attribute and for a sub-attribute, since they have no sub-attributes; true for an unknown name
abbrev pub may_have_values : Meant → Bool
may_have_values meant.Nothing = true
may_have_values (meant.Attribute a) = not (is_empty (sub_attributes a))
may_have_values (meant.SubAttribute a b) = false

-- whether each comparison in a tree suits the type of its attribute, and no value path is on an attribute
-- without sub-attributes
abbrev pub fits : Tree → Bool
fits (Or a b) = fits a && fits b
fits (And a b) = fits a && fits b
fits (Not a) = fits a
fits (Present path) = true
fits (Compare path op x) = fits_comparison path.meant op x
fits (Values path inner) = may_have_values path.meant && fits inner
