-- The tree of a filter, without pointers.
use Rattle.std.specs.Prelude.{Option, None, Some}
use Rattle.scim_schema.specs.declared.Attribute.{Attribute}
use Rattle.scim_filter_grammar.specs.declared.tree.Operator.{Operator}
use Rattle.scim_filter_grammar.specs.declared.tree.Literal.{Literal}
use Rattle.scim_filter_grammar.specs.declared.tree.AttributePath.{AttributePath}
use Rattle.scim_filter_grammar.specs.declared.tree.Meant.{Meant}
use Rattle.scim_filter_grammar.specs.declared.tree.Meant.TheVariants as meant
use Rattle.scim_filter_grammar.specs.declared.tree.Node.{Node}
use Rattle.scim_filter_grammar.specs.declared.tree.Filter.{Filter}
use Rattle.scim_filter_grammar.specs.declared.tree.Node.TheVariants as node

-- a filter: `or`, `and`, `not`, `pr`, a comparison, or a value path with the filter in its brackets
pub data Tree : Type 0 where
  Or : Tree → Tree → Tree
  And : Tree → Tree → Tree
  Not : Tree → Tree
  Present : AttributePath → Tree
  Compare : AttributePath → Operator → Literal → Tree
  Values : AttributePath → Tree → Tree

-- the attribute whose sub-attributes may be named in brackets after a path; None if there is none
abbrev pub attribute_meant : Meant → Option Attribute
attribute_meant meant.Nothing = None
attribute_meant (meant.Attribute a) = Some a
attribute_meant (meant.SubAttribute a b) = None

-- the tree that a node represents
abbrev pub view : Node → Tree
view (node.Or' p a q b) = Or (view a) (view b)
view (node.And' p a q b) = And (view a) (view b)
view (node.Not' p a) = Not (view a)
view (node.Present path) = Present path
view (node.Compare path op literal) = Compare path op literal
view (node.Values' path p a) = Values path (view a)

-- the tree of a filter
abbrev pub tree_of : Filter → Tree
tree_of filter = view filter.node
