-- The names that a filter mentions, in the order of its text, and what they refer to.
use Rattle.std.specs.Prelude.{Bool, List, [], ◌∷◌, ◌++◌, Option, Some, None}
use Rattle.scim_schema.specs.declared.Attribute.{Attribute}
use Rattle.scim_filter_grammar.specs.declared.tree.Meant.{Meant}
use Rattle.scim_filter_grammar.specs.declared.tree.Meant.TheVariants as meant
use Rattle.scim_filter_grammar.specs.declared.tree.AttributePath.{AttributePath}
use Rattle.scim_filter_grammar.specs.declared.mentions.Named.{Named}
use Rattle.scim_filter_grammar.specs.Types.{is_some}
use Rattle.scim_filter_grammar.specs.Names.{names_text, path_text}
use Rattle.scim_filter_grammar.specs.Tree.{Tree, Or, And, Not, Present, Compare, Values}

-- the named attribute, or the attribute of the named sub-attribute; None if the kind doesn't have the name
abbrev pub mentioned_attribute : Meant → Option Attribute
mentioned_attribute meant.Nothing = None
mentioned_attribute (meant.Attribute a) = Some a
mentioned_attribute (meant.SubAttribute a b) = Some a

-- a path as written, with the attribute that it refers to, if the kind has it
abbrev pub named : AttributePath → Named
named path = record { text = path_text path.urn (names_text path.name path.sub_name); attribute = mentioned_attribute path.meant }

-- the names in a tree, in the order of its text
abbrev pub mentioned_names : Tree → List Named
mentioned_names (Or a b) = mentioned_names a ++ mentioned_names b
mentioned_names (And a b) = mentioned_names a ++ mentioned_names b
mentioned_names (Not a) = mentioned_names a
mentioned_names (Present path) = named path ∷ []
mentioned_names (Compare path op x) = named path ∷ []
mentioned_names (Values path inner) = named path ∷ mentioned_names inner

-- whether the kind has the named attribute or sub-attribute
abbrev pub is_known : Named → Bool
is_known n = is_some n.attribute
