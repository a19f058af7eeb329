-- The value that a filter describes: a conjunction of equalities, each on a different sub-attribute.
use Rattle.std.specs.Prelude.{ℕ, Bool, true, not, ◌&&◌, List, [], ◌∷◌, ◌++◌, Option, None, Some, option_map, option_and_then, length, nat_le, if◌then◌else◌}
use Rattle.std.specs.List.{list_any}
use denote.Enum.Bare.{sameb}
use Rattle.scim_schema.specs.declared.limits.TheConstants.{LONGEST_VALUE}
use Rattle.scim_schema.specs.declared.Attribute.{Attribute}
use Rattle.scim_schema.specs.declared.SubAttribute.{SubAttribute}
use Rattle.scim_schema.specs.declared.characteristics.AttributeType.{AttributeType}
use Rattle.scim_schema.specs.declared.characteristics.AttributeType.TheVariants.{String, Boolean, Reference, Binary}
use Rattle.scim_schema.specs.contracts.SubAttribute.{the_type as the_sub_attribute}
use Rattle.scim_schema.specs.Table.{sub_attributes}
use Rattle.scim_schema.specs.Characteristics.{sub_attribute_characteristics}
use Rattle.scim_schema.specs.Units.{leaf_at, is_same_leaf}
use Rattle.scim_cell.specs.declared.atoms.Atom.{Atom}
use Rattle.scim_cell.specs.declared.atoms.Atom.TheVariants.{Text, Truth}
use Rattle.scim_cell.specs.declared.rows.Field.{Field}
use Rattle.scim_filter_grammar.specs.declared.tree.Literal.{Literal}
use Rattle.scim_filter_grammar.specs.declared.tree.Literal.TheVariants as literal
use Rattle.scim_filter_grammar.specs.declared.tree.Meant.{Meant}
use Rattle.scim_filter_grammar.specs.declared.tree.Meant.TheVariants as meant
use Rattle.scim_filter_grammar.specs.declared.tree.Operator.TheVariants.{Eq}
use Rattle.scim_filter_grammar.specs.Tree.{Tree, And, Compare, Values}
use Rattle.scim_filter_grammar.specs.Types.{truth_in}

-- the text as an atom; None if it is longer than 65,536 bytes, the limit for a text of a resource
abbrev pub text_atom : List ℕ → Option Atom
text_atom t = if nat_le (length t) LONGEST_VALUE then Some (Text t) else None

-- the literal as an atom of this type; None if the literal isn't a valid value of the type; a boolean may
-- also be written as a text
abbrev pub atom_for : AttributeType → Literal → Option Atom
atom_for Boolean (literal.Truth b) = Some (Truth b)
atom_for Boolean (literal.Text t) = option_map Truth (truth_in t)
atom_for String (literal.Text t) = text_atom t
atom_for Reference (literal.Text t) = text_atom t
atom_for Binary (literal.Text t) = text_atom t
atom_for _ _ = None

-- whether the attribute has the sub-attribute
abbrev pub has_sub_attribute : Attribute → SubAttribute → Bool
has_sub_attribute a b = list_any (λ c. sameb the_sub_attribute c b) (sub_attributes a)

-- a field that has the literal as the value of the sub-attribute; None if the attribute doesn't have the
-- sub-attribute, or the literal isn't a valid value of the sub-attribute's type
abbrev pub field_for : Attribute → SubAttribute → Literal → Option Field
field_for a b x = if has_sub_attribute a b then option_map (λ atom. record { leaf = leaf_at a b; atom = atom }) (atom_for (sub_attribute_characteristics a b).attribute_type x) else None

-- the field that an equality describes, as a list; None if the equality isn't on a sub-attribute of the
-- attribute, or the literal isn't a valid value for it
abbrev pub equality : Attribute → Meant → Literal → Option (List Field)
equality a (meant.SubAttribute c b) x = option_map (λ f. f ∷ []) (field_for a b x)
equality a _ x = None

-- the fields of both lists, one list after the other; None if either list is missing
abbrev pub joined : Option (List Field) → Option (List Field) → Option (List Field)
joined (Some fs) (Some gs) = Some (fs ++ gs)
joined _ _ = None

-- the fields that a conjunction of equalities describes, in their order; None for any other filter, or if one
-- of the equalities describes no field
abbrev pub equalities : Attribute → Tree → Option (List Field)
equalities a (Compare path Eq x) = equality a path.meant x
equalities a (And p q) = joined (equalities a p) (equalities a q)
equalities a _ = None

-- whether no two fields belong to the same leaf
abbrev pub is_each_once : List Field → Bool
is_each_once [] = true
is_each_once (f ∷ fs) = not (list_any (λ (g : Field). is_same_leaf g.leaf f.leaf) fs) && is_each_once fs

-- the fields; None if two of them belong to the same leaf
abbrev pub if_each_once : List Field → Option (List Field)
if_each_once fs = if is_each_once fs then Some fs else None

-- the fields of the value that a value path describes; None if the filter in brackets isn't a conjunction of
-- equalities, each with a valid value for a different sub-attribute
abbrev pub described : Attribute → Tree → Option (List Field)
described a (Values path inner) = option_and_then if_each_once (equalities a inner)
described a _ = None
