-- The attributes that a query names, and when a query can't tell two parts apart.
use Rattle.std.specs.Prelude.{◌≡◌, Bool, Option, None, Some, List, [], ◌∷◌, ◌++◌, filter_map}
use Rattle.std.specs.List.{list_any}
use denote.Enum.Bare.{sameb}
use Rattle.scim_schema.specs.declared.Attribute.{Attribute}
use Rattle.scim_schema.specs.declared.Attribute.TheVariants.{Groups}
use Rattle.scim_schema.specs.contracts.Attribute.{the_type as the_attribute}
use Rattle.scim_schema.specs.declared.Leaf.{Leaf}
use Rattle.scim_cell.specs.Content.{Content}
use Rattle.scim_cell.specs.Rows.{rows}
use Rattle.scim_filter_grammar.specs.declared.mentions.Named.{Named}
use Rattle.scim_filter_grammar.specs.declared.tree.Filter.{Filter}
use Rattle.scim_filter_grammar.specs.Mentions.{mentioned_names}
use Rattle.scim_filter_grammar.specs.Tree.{tree_of}
use Rattle.scim_query.specs.declared.queries.Query.{Query}
use Rattle.scim_query.specs.Keys.{key_by}
use Rattle.scim_query.specs.Pages.{is_match}

-- the attributes that the names refer to; names that the kind doesn't have are skipped
abbrev pub attributes_in : List Named → List Attribute
attributes_in ns = filter_map (λ (n : Named). n.attribute) ns

-- the attributes that a filter names, in the order of its text
abbrev pub attributes_named : Filter → List Attribute
attributes_named f = attributes_in (mentioned_names (tree_of f))

-- the attributes that the filter names; none if there is no filter
abbrev pub filter_attributes : Option Filter → List Attribute
filter_attributes None = []
filter_attributes (Some f) = attributes_named f

-- the attribute of the leaf to sort by, if there is one
abbrev pub key_attributes : Option Leaf → List Attribute
key_attributes None = []
key_attributes (Some l) = l.attribute ∷ []

-- the attributes that the query's filter and sort key name
abbrev pub attributes_of : Query → List Attribute
attributes_of query = filter_attributes query.filter ++ key_attributes query.sort_by

-- whether the query's filter or sort key names `groups`
abbrev pub names_groups : Query → Bool
names_groups query = list_any (λ a. sameb the_attribute a Groups) (attributes_of query)

-- a query can't tell two parts apart: both match or neither does, and they have equal sort keys and equal ids
pub record Alike (query : Query) (p q : Content) : Type 0 where
  pub matches : is_match query.filter p ≡ is_match query.filter q
  pub key : key_by query.sort_by (rows p) ≡ key_by query.sort_by (rows q)
  pub id : p.id ≡ q.id
